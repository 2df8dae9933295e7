use Rattle.std.proofs.Common.{ℕ, ◌-◌, ◌*◌, ◌%◌, List, length, arith, subst}
use borrow.Rule.Slice.PartMut.{put_mid}
use Rattle.packed.specs.Packing.{Put}
use Rattle.packed.proofs.Puts.{put_both, put_within, put_from}
use Rattle.packed.proofs.packed.bytes.put.Goals as goal

pub returns-else-sent-gap : goal.returns-else-sent-gap
returns-else-sent-gap c =
    let track : List ℕ = c.put_part-else-sent-gap.new.bytes in
    let gap = (8 - c.args.place % 8) % 8 in
    let k = c.div_ceil.result in
    let n = length track - k in
    let new = put_mid k n track c.put_aligned.new.bytes in
    let front = subst (λ (xs : List ℕ). Put 0 c.args.place xs c.args.track.now track) c.split_at.ensures.front c.put_part-else-sent-gap.ensures in
    let back = subst (λ (xs : List ℕ). Put k 0 xs track new) c.split_at.ensures.back (put_within k n 0 c.split_at.result.1.now track c.put_aligned.new.bytes (omega arith) (omega arith) (omega arith) c.put_aligned.ensures) in
    put_both 0 c.args.place gap (8 * k) c.args.sent.now c.args.track.now track new (omega arith) (omega arith) front (put_from k (8 * k) _ track new back (omega arith))
