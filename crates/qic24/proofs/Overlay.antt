-- Writing parts of a buffer one after the other.
use Rattle.std.proofs.Common.{◌≡◌, ℕ, ◌+◌, ◌≤◌, List, [], ◌++◌, length, take, drop, sym, ap, ◌∙◌, add-zero, add_assoc, arith}
use borrow.Rule.Slice.PartMut.{put_mid}
use Rattle.std.proofs.lemmas.List.{append_assoc, length-append, length-take-le, length-drop, take_at, drop_at, drop-drop, take-append-drop}
use Rattle.qic24.specs.Buffers.{overlaid}

-- after a write to `out[at..end]`
pub overlay_part : (o ys xs : List ℕ) (at k : ℕ) → ys ≡ xs → k ≡ length xs → put_mid at k o ys ≡ overlaid o at xs
overlay_part o ys xs at k e n = rw (e, n) (ap (λ (z : List ℕ). take at o ++ (xs ++ z)) (drop-drop (length xs) at o))

pub length-overlaid : (o : List ℕ) (at : ℕ) (xs : List ℕ) → at + length xs ≤ length o → length (overlaid o at xs) ≡ length o
length-overlaid o at xs h = simp (length-append, length-append, length-drop) (omega (arith, length-take-le at o (omega arith)))

pub overlay_none : (o : List ℕ) (at : ℕ) → overlaid o at [] ≡ o
overlay_none o at = rw add-zero (take-append-drop at o)

pub overlay_overlay : (o : List ℕ) (at : ℕ) (xs ys : List ℕ) → at + length xs ≤ length o → overlaid (overlaid o at xs) (at + length xs) ys ≡ overlaid o at (xs ++ ys)
overlay_overlay o at xs ys h =
    let t = take at o in
    let n = at + length xs in
    let r = drop n o in
    let e : overlaid o at xs ≡ (t ++ xs) ++ r = sym (append_assoc t xs r) in
    let l : length (t ++ xs) ≡ n = length-append t xs ∙ ap (λ k. k + length xs) (length-take-le at o (omega arith)) in
    let a : take n ((t ++ xs) ++ r) ≡ t ++ xs = take_at (t ++ xs) r n l in
    let b : drop (n + length ys) ((t ++ xs) ++ r) ≡ drop (at + length (xs ++ ys)) o =
    sym (drop-drop (length ys) n ((t ++ xs) ++ r)) ∙ ap (drop (length ys)) (drop_at (t ++ xs) r n l) ∙ drop-drop (length ys) n o ∙
    ap (λ k. drop k o) (add_assoc at (length xs) (length ys) ∙ ap (λ k. at + k) (sym (length-append xs ys))) in
    ap (λ (z : List ℕ). take n z ++ (ys ++ drop (n + length ys) z)) e ∙
    ap (λ (z : List ℕ). z ++ (ys ++ drop (n + length ys) ((t ++ xs) ++ r))) a ∙
    ap (λ (z : List ℕ). (t ++ xs) ++ (ys ++ z)) b ∙
    append_assoc t xs (ys ++ drop (at + length (xs ++ ys)) o) ∙
    ap (λ (z : List ℕ). t ++ z) (sym (append_assoc xs ys (drop (at + length (xs ++ ys)) o)))

-- one part more, right after what is written
pub overlay_more : (o cur next : List ℕ) (at end : ℕ) (ws xs : List ℕ) → cur ≡ overlaid o at ws → end ≡ at + length ws → at + length ws ≤ length o → next ≡ overlaid cur end xs → next ≡ overlaid o at (ws ++ xs)
overlay_more o cur next at end ws xs p q h r = r ∙ ap (λ (z : List ℕ). overlaid z end xs) p ∙ ap (λ k. overlaid (overlaid o at ws) k xs) q ∙ overlay_overlay o at ws xs h
