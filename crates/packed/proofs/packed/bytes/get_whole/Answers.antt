use Rattle.std.proofs.Common.{◌-◌, ◌+◌, ◌*◌, length, ◌∙◌, arith}
use Rattle.std.proofs.lemmas.List.FromFn.{fill_by_all}
use Rattle.packed.specs.Packed.{packed_cell}
use Rattle.packed.proofs.Gets.{byte_more}
use Rattle.packed.proofs.packed.bytes.get_whole.Goals as goal

pub loop-k-preserved : goal.loop-k-preserved
loop-k-preserved c =
    byte_more c.args.bytes.now c.loop-k.out c.copy_from_slice.new.self c.loop-k.k (8 * c.loop-k.k + 8 - 8 * c.loop-k.k) (omega arith) (omega arith)
    (c.copy_from_slice.ensures.after ∙ c.unpacked8.ensures) c.loop-k.invariant

pub returns : goal.returns
returns c = fill_by_all (packed_cell c.args.bytes.now 0) c.loop-k.out (length c.args.out.now) 0 c.loop-k.auto.out (λ i h. c.loop-k.invariant i (omega arith))
