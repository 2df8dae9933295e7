use Rattle.std.proofs.Common.{◌≡◌, ℕ, ◌*◌, ◌<◌, get_or}
use Rattle.packed.specs.Packed.{packed_cell}
use Rattle.packed.proofs.packed.bytes.get_whole.Given as goal

abbrev pub invariant-loop-k : goal.invariant-loop-k
invariant-loop-k l = (i : ℕ) → i < 8 * l.k → get_or l.out i 0 ≡ packed_cell l.bytes 0 i
