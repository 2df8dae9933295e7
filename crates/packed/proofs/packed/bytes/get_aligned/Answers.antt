use Rattle.std.proofs.Common.{ℕ, ◌+◌, ◌/◌, List, length, ap, ◌∙◌, arith}
use Rattle.packed.specs.Packed.{packed_cell}
use Rattle.packed.proofs.Parts.{cell_take, cell_drop, cell_from}
use Rattle.packed.proofs.Gets.{both_parts}
use Rattle.packed.proofs.packed.bytes.get_aligned.Goals as goal

pub returns : goal.returns
returns c =
    let bytes : List ℕ = c.args.bytes.now in
    let w = length c.args.out.now / 8 in
    both_parts (packed_cell c.split_at.result.0.now 0) (packed_cell c.split_at.result.1.now 0) (packed_cell bytes 0) 0 0 0
    (length c.split_at_mut-whole.result.0.now) (length c.split_at_mut-whole.result.1.now) (length c.args.out.now)
    c.get_whole.new.out c.get_part.new.out c.get_whole.ensures c.get_part.ensures (omega arith)
    (λ i h. ap (λ (b : List ℕ). packed_cell b 0 (0 + i)) c.split_at.ensures.front ∙ cell_take bytes w (0 + i) (omega arith))
    (λ i h. ap (λ (b : List ℕ). packed_cell b 0 (0 + i)) c.split_at.ensures.back ∙ cell_drop bytes w (0 + i) ∙ cell_from bytes w (0 + i) (0 + (length c.split_at_mut-whole.result.0.now + i)) (omega arith))
