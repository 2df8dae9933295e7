use Rattle.std.proofs.Common.{◌≡◌, ℕ, ◌*◌, ◌/◌, List, [], length, get_or, take, drop, ap, ◌∙◌, subst, arith}
use Rattle.packed.specs.Packing.{Merged, Put}
use Rattle.packed.proofs.Puts.{put_eight, put_both, first_chunks_at}
use Rattle.packed.proofs.packed.bytes.put_aligned.Goals as goal

pub loop-k-preserved : goal.loop-k-preserved
loop-k-preserved c =
    let sent : List ℕ = c.args.sent.now in
    let k = c.loop-k.k in
    let eight = ap (λ (xss : List (List ℕ)). get_or xss k []) c.as_chunks.ensures.front ∙ first_chunks_at 8 (length sent / 8) sent k [] (omega arith) in
    put_eight k c.packed8.result sent c.args.bytes.now c.loop-k.bytes (omega arith) (omega arith) c.loop-k.invariant
    (λ old. subst (λ (xs : List ℕ). Merged old 0 xs c.packed8.result) eight (c.packed8.ensures old))

pub returns : goal.returns
returns c =
    let sent : List ℕ = c.args.sent.now in
    let n = length c.as_chunks.result.0.now in
    let whole : c.loop-k.k ≡ n = omega arith in
    let at : length sent / 8 * 8 ≡ 8 * n = omega arith in
    let back : c.as_chunks.result.1.now ≡ drop (8 * n) sent = c.as_chunks.ensures.back ∙ ap (λ (i : ℕ). drop i sent) at in
    put_both 0 0 (8 * n) (8 * n) sent c.args.bytes.now c.loop-k.bytes c.put_part.new.bytes (omega arith) (omega arith)
    (subst (λ (i : ℕ). Put 0 0 (take (8 * i) sent) c.args.bytes.now c.loop-k.bytes) whole c.loop-k.invariant)
    (subst (λ (xs : List ℕ). Put 0 (8 * n) xs c.loop-k.bytes c.put_part.new.bytes) back c.put_part.ensures)
