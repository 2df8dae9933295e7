use Rattle.std.proofs.Common.{length}
use Rattle.replay.specs.Scan.{openings_from}
use Rattle.shelf.proofs.Files.{Listing}
use Rattle.shelf.proofs.survey.list_rows.Given as goal

abbrev pub invariant-loop-row : goal.invariant-loop-row
invariant-loop-row g l = Listing (g.C.Reading.cells l.cartridge) l.initial.rows l.cursor l.filed l.rows

abbrev pub decreases-loop-row : goal.decreases-loop-row
decreases-loop-row g l = length (openings_from (g.C.Reading.cells l.cartridge) l.cursor.from)
