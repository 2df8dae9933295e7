use Rattle.std.proofs.Common.{◌∙◌, [], map, length, refl, rules, subst, arith}
use Rattle.std.specs.Slice.Iter.{chunks_rest}
use Rattle.std.proofs.lemmas.List.{nil_from_length}
use Rattle.tape.specs.Tape.{track, cell, run}
use Rattle.tape.specs.Flaws.{masked}
use Rattle.tape.specs.FlawTables.{table_flaws}
use Rattle.tape.specs.Sheets.{sheet_flaws}
use Rattle.tape.specs.declared.table.FlawTable.{FlawTable}
use Rattle.tape.proofs.Masking.{so_far_more, so_far_added, so_far_fits, so_far_all}
use Rattle.tape.proofs.sheet.FlawSheet.send_masked.Goals as goal

pub loop-part-init : goal.loop-part-init
loop-part-init g c = (search rules, tt, search rules, refl, record { front = []; parted = search rules; runs = []; on_track = tt; together = refl; sends = refl })

pub send_part-requires-clause-there : goal.send_part-requires-clause-there
send_part-requires-clause-there g c =
    let s = c.args.self.now in
    omega (arith, c.requires.there, (so_far_added g.C.Reading.cells g.C.Reading.takes g.met.C.Reading.grows (sheet_flaws s) c.args.at c.args.sent.now (chunks_rest c.loop-part.part-iterator) s.inner c.loop-part.self.inner c.loop-part.invariant.4).1)

pub send_part-requires-clause-fits : goal.send_part-requires-clause-fits
send_part-requires-clause-fits g c =
    let s = c.args.self.now in
    so_far_fits g.C.Reading.cells g.C.Reading.takes g.met.C.Reading.grows (sheet_flaws s) c.args.at c.args.sent.now (chunks_rest c.loop-part.part-iterator) s.inner c.loop-part.self.inner c.loop-part.invariant.4
    c.in-Some.part.now (chunks_rest c.next.new.self) g.C.Reading.room g.met.C.Reading.keeps c.in-Some.ensures.steps.1.0 c.requires.fits

pub loop-part-preserved : goal.loop-part-preserved
loop-part-preserved g c =
    let s = c.args.self.now in
    let m = c.loop-part.self.inner in
    let e = c.send_part.new.self.inner in
    let part = c.in-Some.part.now in
    let steps = c.in-Some.ensures.steps in
    let same = c.loop-part.invariant.3 in
    let takes = subst (λ (t : FlawTable). g.C.Reading.takes m (run c.args.at (masked (table_flaws t) c.args.at (length (track (g.C.Reading.cells m) c.args.at)) (map cell part))) e) same c.send_part.ensures.inner in (
      search rules,
      tt,
      steps.0 ∙ c.loop-part.invariant.2,
      c.send_part.ensures.table ∙ same,
      so_far_more g.C.Reading.cells g.C.Reading.takes g.met.C.Reading.grows (sheet_flaws s) c.args.at c.args.sent.now (chunks_rest c.loop-part.part-iterator) s.inner m c.loop-part.invariant.4 part (chunks_rest c.next.new.self) e steps.1.0 takes,
    )

pub returns-clause-inner : goal.returns-clause-inner
returns-clause-inner g c =
    let s = c.args.self.now in
    so_far_all g.C.Reading.cells g.C.Reading.takes (sheet_flaws s) c.args.at c.args.sent.now (chunks_rest c.loop-part.part-iterator) s.inner c.loop-part.self.inner c.requires.there (nil_from_length _ c.in-None.ensures.steps.1.0) c.requires.touched c.loop-part.invariant.4
