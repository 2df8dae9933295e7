use Rattle.std.proofs.Common.{take}
use Rattle.packed.specs.Packing.{Merged}
use Rattle.packed.proofs.packed.bytes.merged.Given as goal

abbrev pub invariant-loop-i : goal.invariant-loop-i
invariant-loop-i l = Merged l.byte l.j (take l.i l.cells) l.merged
