use Rattle.std.proofs.Common.{ℕ, ◌+◌, ◌≤◌, rules, length, sym, refl, ap, ◌∙◌, subst}
use Rattle.std.proofs.lemmas.Result.{MatchResult-weaker}
use Rattle.tape.specs.Tape.{track}
use Rattle.tape.specs.Flaws.{Clean}
use Rattle.tape.specs.Sheets.{sheet_flaws}
use Rattle.tape.proofs.Replies.{length-told}
use Rattle.tape.proofs.Touching.{met_not_clean, unmet_clean}
use Rattle.tape.proofs.Masking.{passed_whole}
use Rattle.tape.proofs.sheet.cartridge.FlawSheetRecording.append.Goals as goal

pub returns-else-touches-clause-tape : goal.returns-else-touches-clause-tape
returns-else-touches-clause-tape g c =
    let s = c.args.self.now.inner in
    let fs = sheet_flaws c.args.self.now in
    let told = length-told c.args.at (length (g.C.Reading.cells s)) (length (track (g.C.Reading.cells s) c.args.at)) c.in_ok-place.place c.in_ok-place.ensures in
    let clean : Clean fs c.args.at (length (track (g.C.Reading.cells s) c.args.at)) (length c.args.sent.now) =
    subst (λ (n : ℕ). Clean fs c.args.at n (length c.args.sent.now)) told.1 (unmet_clean fs c.args.at c.in_ok-place.place (length c.args.sent.now) (sym c.touches.ensures ∙ c.if-touches.false)) in
    MatchResult-weaker c.append.result c.append.ensures.tape
    (λ x k. (passed_whole g.C.Reading.cells g.C.Reading.takes fs c.args.at c.args.sent.now s c.append.new.self told.0 clean k, refl))
    (λ x k. ap (λ (i : _). record { inner = i; table = c.args.self.now.table }) k)

pub send_masked-requires-clause-touched : goal.send_masked-requires-clause-touched
send_masked-requires-clause-touched g c =
    let s = c.args.self.now.inner in
    let t = c.args.self.now.table in
    let place = c.in_ok-place.place in
    let n = length c.args.sent.now in
    let told = length-told c.args.at (length (g.C.Reading.cells s)) (length (track (g.C.Reading.cells s) c.args.at)) place c.in_ok-place.ensures in
    let room = g.met.C.Reading.small s in
    let small : place + n ≤ 100000000 = search rules in
    subst (λ (p : ℕ). Clean (sheet_flaws c.args.self.now) c.args.at p n → ⊥) told.1 (met_not_clean (sheet_flaws c.args.self.now) c.args.at place n t.whole small (sym c.touches.ensures ∙ c.if-touches.true))
