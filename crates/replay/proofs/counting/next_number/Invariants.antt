use Rattle.std.proofs.Common.{length}
use Rattle.replay.specs.Scan.{openings_from}
use Rattle.replay.proofs.Counts.{GoesOnAt}
use Rattle.replay.proofs.counting.next_number.Given as goal

abbrev pub invariant-loop-after : goal.invariant-loop-after
invariant-loop-after g l = GoesOnAt (g.C.Reading.cells l.cartridge) l.cursor

abbrev pub decreases-loop-after : goal.decreases-loop-after
decreases-loop-after g l = length (openings_from (g.C.Reading.cells l.cartridge) l.cursor.from)
