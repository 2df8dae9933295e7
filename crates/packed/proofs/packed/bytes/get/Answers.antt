use Rattle.std.proofs.Common.{ℕ, ◌-◌, ◌+◌, List, length, take, drop, ◌∙◌, refl, arith}
use Rattle.packed.specs.Packed.{packed_cell}
use Rattle.packed.proofs.Parts.{cell_within, cell_from}
use Rattle.packed.proofs.Gets.{both_parts}
use Rattle.packed.proofs.packed.bytes.get.Goals as goal

pub returns-else-out-gap : goal.returns-else-out-gap
returns-else-out-gap c =
    let track : List ℕ = c.args.track.now in
    let k = c.div_ceil.result in
    let n = length c.split_at_mut-front.result.0.now in
    both_parts (packed_cell track 0) (packed_cell (take (length track - k) (drop k track)) 0) (packed_cell track 0) c.args.place 0 c.args.place
    n (length c.split_at_mut-front.result.1.now) (length c.args.out.now)
    c.get_part-else-out-gap.new.out c.get_aligned.new.out c.get_part-else-out-gap.ensures c.get_aligned.ensures (omega arith)
    (λ i h. refl)
    (λ i h. cell_within track k (length track - k) (0 + i) (omega arith) ∙ cell_from track k (0 + i) (c.args.place + (n + i)) (omega arith))
