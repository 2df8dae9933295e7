use Rattle.std.proofs.Common.{get_or, ap, ◌∙◌, zero-add, arith}
use Rattle.packed.specs.Packed.{bit}
use Rattle.packed.proofs.Words.{packed_eight}
use Rattle.packed.proofs.packed.bytes.packed8.Goals as goal

pub returns : goal.returns
returns c old = record {
  before = λ i h. absurd (omega arith);
  these = λ i h. ap (bit _) (zero-add i) ∙ packed_eight (λ k. get_or c.args.cells.now k 0) c.fits-cells c.from_le_bytes-word.result c.from_le_bytes-word.ensures i (omega arith);
}
