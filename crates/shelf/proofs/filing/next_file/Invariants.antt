use Rattle.std.proofs.Common.{length}
use Rattle.replay.specs.Scan.{openings_from}
use Rattle.shelf.proofs.Files.{Filing}
use Rattle.shelf.proofs.filing.next_file.Given as goal

abbrev pub invariant-loop-item : goal.invariant-loop-item
invariant-loop-item g l = Filing (g.C.Reading.cells l.cartridge) l.initial.cursor l.cursor l.file

abbrev pub decreases-loop-item : goal.decreases-loop-item
decreases-loop-item g l = length (openings_from (g.C.Reading.cells l.cartridge) l.cursor.from)
