use Rattle.std.proofs.Common.{◌≡◌, ℕ, List, map, length, Ok, subst, rules}
use Rattle.std.proofs.lemmas.Result.{MatchResult-at_ok}
use Rattle.tape.specs.Tape.{cell, run, track}
use Rattle.tape.specs.Flaws.{masked}
use Rattle.tape.specs.Sheets.{sheet_flaws}
use Rattle.tape.specs.Covering.{cell_masked}
use Rattle.tape.proofs.sheet.FlawSheet.send_part.Goals as goal

pub returns-clause-inner : goal.returns-clause-inner
returns-clause-inner g c =
    let s = c.args.self.now.inner in
    let fs = sheet_flaws c.args.self.now in
    let sent = c.args.sent.now in
    let place = length (track (g.C.Reading.cells s) c.args.at) in
    let is : c.mask_into.new.out ≡ masked fs c.args.at place sent = rw (← c.track_length.ensures) c.mask_into.ensures in
    let cells : map cell c.mask_into.new.out ≡ masked fs c.args.at place (map cell sent) = rw is (cell_masked fs c.args.at place sent) in
    let taken : c.append.result ≡ Ok tt = search rules in
    subst (λ (x : List ℕ). g.C.Reading.takes s (run c.args.at x) c.append.new.self) cells (MatchResult-at_ok _ _ tt taken c.append.ensures.tape)
