use Rattle.std.proofs.Common.{◌≡◌}
use Rattle.std.specs.Slice.Iter.{chunks_rest, chunks_size}
use Rattle.tape.specs.Sheets.{sheet_flaws}
use Rattle.tape.proofs.Masking.{SoFar}
use Rattle.tape.proofs.sheet.FlawSheet.send_masked.Given as goal

abbrev pub invariant-loop-part : goal.invariant-loop-part
invariant-loop-part g l =
    (goal.iterator-loop-part g).can_next l.part-iterator
    × (goal.iterator-loop-part g).is_finite l.part-iterator
    × (chunks_size l.part-iterator ≡ 512)
    × (l.self.table ≡ l.initial.self.table)
    × SoFar g.C.Reading.cells g.C.Reading.takes (sheet_flaws l.initial.self) l.at l.sent (chunks_rest l.part-iterator) l.initial.self.inner l.self.inner
