use Rattle.std.proofs.Common.{◌≡◌, map, take}
use Rattle.qic24.specs.Cells.{cell, number_of}
use Rattle.qic24.proofs.decoding.group.Given as goal

abbrev pub invariant-loop-cell : goal.invariant-loop-cell
invariant-loop-cell l = l.number ≡ number_of (map cell (take l.cell-index l.cells))
