use Rattle.std.proofs.Common.{◌∙◌, arith}
use Rattle.packed.proofs.Words.{unpacked_eight}
use Rattle.packed.proofs.packed.bytes.unpacked8.Goals as goal

pub returns : goal.returns
returns c = c.to_le_bytes.ensures ∙ unpacked_eight c.from-copies.result c.args.byte c.from-copies.ensures (omega arith)
