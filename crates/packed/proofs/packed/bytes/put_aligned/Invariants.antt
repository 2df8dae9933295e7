use Rattle.std.proofs.Common.{◌*◌, take}
use Rattle.packed.specs.Packing.{Put}
use Rattle.packed.proofs.packed.bytes.put_aligned.Given as goal

abbrev pub invariant-loop-k : goal.invariant-loop-k
invariant-loop-k l = Put 0 0 (take (8 * l.k) l.sent) l.initial.bytes l.bytes
