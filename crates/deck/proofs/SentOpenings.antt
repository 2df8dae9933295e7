-- Openings stand only where a copy was sent.
use Rattle.std.proofs.Common.{◌≡◌, ℕ, ◌+◌, ◌-◌, ◌<◌, ◌≤◌, ◌⊎◌, List, [], ◌∷◌, ◌++◌, length, get_or, take, drop, replicate, sym, refl, ap, ◌∙◌, subst, inr, ⊎_elim, append_assoc, arith, lit<, length-append, length-drop, take-take}
use lib.ListN.{get_or-replicate, replicate-append-replicate}
use lib.Seq.{take-append-le, drop-append-le, drop-append-add}
use Rattle.std.proofs.lemmas.List.{get_or-take, get_or-drop, get_or_append_left, get_or-append_right}
use Rattle.std.proofs.lemmas.Bool.{cases_lt, cases_eq}
use Rattle.qic24.specs.Copy.{Numbered, Proper, body, marker, ones, copy}
use Rattle.qic24.specs.Opening.{opening, Opens}
use Rattle.qic24.proofs.Openings.{opens_within}
use Rattle.qic24.proofs.Runs.{no_nine_ones, no_opening-inside}
use Rattle.deck.specs.Measures.{marker_cells}
use Rattle.deck.proofs.CopyLengths.{full, length-body, length-copy, length-ones}
use Rattle.deck.proofs.NeverShort.{strictly}
use Rattle.deck.proofs.SentCopies.{opened, sound-sent}

-- cells that end in five ones, if there are any
abbrev pub EndsInOnes : List ℕ → Type 0
EndsInOnes x = (x ≡ []) ⊎ ((y : List ℕ) × (x ≡ y ++ ones 5))

part : (n p : ℕ) (x y : List ℕ) → p + n ≤ length x → take n (drop p (x ++ y)) ≡ take n (drop p x)
part n p x y h = ap (take n) (drop-append-le p x y (omega arith)) ∙ take-append-le n (drop p x) y (omega (arith, length-drop p x))

-- an opening that ends within the cells before was there before
pub opens_before : (p : ℕ) (x y : List ℕ) → p ≤ length x → Opens (x ++ y) p → Opens x p
opens_before p x y h o = (o.0, sym (part 14 (p - 14) x y (omega (arith, o.0))) ∙ o.1)

one_in_ones : (n k : ℕ) → k < n → get_or (ones n) k 0 ≡ 1
unfolding ones
one_in_ones n k h = get_or-replicate n k 1 0 h

-- an opening has a zero five cells before its end
zero-there : (c : List ℕ) (q : ℕ) → Opens c q → get_or c (q - 5) 0 ≡ 0
zero-there c q o =
    let at : q - 14 + 9 ≡ q - 5 = omega (arith, o.0) in
    ap (λ (k : ℕ). get_or c k 0) (sym at) ∙ (sym (get_or-drop (q - 14) c 9 0) ∙ (sym (get_or-take 14 (drop (q - 14) c) 9 0 (lit< tt)) ∙ ap (λ (z : List ℕ). get_or z 9 0) o.1))

-- none ends among ones that follow such cells
pub none_in_ones : (x r : List ℕ) (p q : ℕ) → EndsInOnes x → length x < q → q < length x + p + 5 → Opens (x ++ (ones p ++ r)) q → ⊥
none_in_ones x r p q h l k o =
    let z = zero-there (x ++ (ones p ++ r)) q o in
    let one : get_or (x ++ (ones p ++ r)) (q - 5) 0 ≡ 1 = ⊎_elim before after (cases_lt (q - 5) (length x)) in
    omega arith
  where
    after : length x ≤ q - 5 → get_or (x ++ (ones p ++ r)) (q - 5) 0 ≡ 1
    after u =
        get_or-append_right x (ones p ++ r) (length x) (q - 5) 0 refl u ∙
        (get_or_append_left (ones p) r 0 (q - 5 - length x) (omega (arith, length-ones p, o.0)) ∙ one_in_ones p (q - 5 - length x) (omega (arith, o.0)))

    before : q - 5 < length x → get_or (x ++ (ones p ++ r)) (q - 5) 0 ≡ 1
    before u = get_or_append_left x (ones p ++ r) 0 (q - 5) u ∙ ⊎_elim (λ (e : x ≡ []). absurd (omega (arith, ap length e))) last h
      where
        last : (y : List ℕ) × (x ≡ y ++ ones 5) → get_or x (q - 5) 0 ≡ 1
        last (y, e) =
            let size : length x ≡ length y + 5 = ap length e ∙ (length-append y (ones 5) ∙ omega (arith, length-ones 5)) in
            ap (λ (v : List ℕ). get_or v (q - 5) 0) e ∙ (get_or-append_right y (ones 5) (length y) (q - 5) 0 refl (omega arith) ∙ one_in_ones 5 (q - 5 - length y) (omega (arith, o.0)))

-- a copy begins with its preamble and the five ones of its marker
begins_with_ones : (p t : ℕ) (i : Numbered) → copy p t i ≡ ones (p + 5) ++ (0 ∷ 0 ∷ 1 ∷ 1 ∷ 1 ∷ (body t i ++ ones 5))
unfolding copy ones
begins_with_ones p t i =
    sym (append_assoc (replicate p 1) (replicate 5 1) (0 ∷ 0 ∷ 1 ∷ 1 ∷ 1 ∷ (body t i ++ replicate 5 1))) ∙
    ap (λ (z : List ℕ). z ++ (0 ∷ 0 ∷ 1 ∷ 1 ∷ 1 ∷ (body t i ++ replicate 5 1))) (replicate-append-replicate {A = ℕ} p 5 1)

-- none ends in the ones after a copy's cells
none-past-body : (x : List ℕ) (p t : ℕ) (i : Numbered) (q : ℕ) → 4 ≤ p → t < 256 → Proper i → length x + (p + marker_cells) + 5180 < q → Opens (x ++ copy p t i) q → ⊥
none-past-body x p t i q h u r l o =
    let place : ℕ = length x + (p + marker_cells) in
    let front : List ℕ = (x ++ ones (p - 4)) ++ opening in
    let rest : List ℕ = body t i ++ ones 5 in
    let at : p ≡ p - 4 + 4 = omega arith in
    let cells : x ++ copy p t i ≡ front ++ rest = ap (λ (n : ℕ). x ++ copy n t i) at ∙ (ap (λ (z : List ℕ). x ++ z) (opened (p - 4) t i) ∙ (sym (append_assoc x (ones (p - 4)) (opening ++ rest)) ∙ sym (append_assoc (x ++ ones (p - 4)) opening rest))) in
    let long : length front ≡ place = length-append (x ++ ones (p - 4)) opening ∙ omega (arith, length-append x (ones (p - 4)), length-ones (p - 4)) in
    let end = opens_within (x ++ copy p t i) q o in
    let size = length-body t i (full i.content r.content) in
    let whole : length (x ++ copy p t i) ≡ length x + (p + marker_cells) + 5185 = length-append x (copy p t i) ∙ omega (arith, length-copy p t i (full i.content r.content)) in
    let k : ℕ = q - 14 - place in
    let there : q - 14 ≡ length front + k = omega arith in
    let nine : take 9 (drop (q - 14) (x ++ copy p t i)) ≡ replicate 9 1 = sym (take-take 9 14 (drop (q - 14) (x ++ copy p t i)) (omega arith)) ∙ ap (take 9) o.1 in
    let body-nine : take 9 (drop k (body t i)) ≡ replicate 9 1 =
    sym (part 9 k (body t i) (ones 5) (omega arith)) ∙ (ap (take 9) (sym (drop-append-add front rest k)) ∙ (ap (λ (n : ℕ). take 9 (drop n (front ++ rest))) (sym there) ∙ (ap (λ (z : List ℕ). take 9 (drop (q - 14) z)) (sym cells) ∙ nine))) in
    no_nine_ones t i u r (3 + k) (ap (take 9) (drop-append-add (1 ∷ 1 ∷ 1 ∷ []) (body t i) k) ∙ body-nine)

-- the one opening of a copy
pub opens-at-copy : (x : List ℕ) (p t : ℕ) (i : Numbered) (q : ℕ) → 4 ≤ p → t < 256 → Proper i → EndsInOnes x → length x < q → Opens (x ++ copy p t i) q → q ≡ length x + (p + marker_cells)
opens-at-copy x p t i q h u r e l o =
    ⊎_elim
    (λ (b : q < length x + (p + marker_cells)). absurd (none_in_ones x (0 ∷ 0 ∷ 1 ∷ 1 ∷ 1 ∷ (body t i ++ ones 5)) (p + 5) q e l (omega arith) (subst (λ (z : List ℕ). Opens (x ++ z) q) (begins_with_ones p t i) o)))
    (λ (b : length x + (p + marker_cells) ≤ q). ⊎_elim (λ (z : q ≡ length x + (p + marker_cells)). z)
    (λ z. absurd (⊎_elim
    (λ (y : length x + (p + marker_cells) + 5180 < q). none-past-body x p t i q h u r y o)
    (λ (y : q ≤ length x + (p + marker_cells) + 5180). no_opening-inside t (x ++ copy p t i) (length x + (p + marker_cells)) i u (sound-sent x p t i h r) q (strictly (length x + (p + marker_cells)) q b (λ y. z (sym y))) y o)
    (cases_lt (length x + (p + marker_cells) + 5180) q)))
    (cases_eq q (length x + (p + marker_cells))))
    (cases_lt q (length x + (p + marker_cells)))

pub copy-ends : (x : List ℕ) (p t : ℕ) (i : Numbered) → EndsInOnes (x ++ copy p t i)
unfolding copy
copy-ends x p t i = inr (x ++ (ones p ++ (marker ++ body t i)), simp append_assoc)

pub ones-end : (x : List ℕ) (n : ℕ) → 5 ≤ n → EndsInOnes (x ++ ones n)
unfolding ones
ones-end x n h =
    let at : n ≡ n - 5 + 5 = omega arith in
    inr (x ++ ones (n - 5), ap (λ (k : ℕ). x ++ replicate k 1) at ∙ (ap (λ (z : List ℕ). x ++ z) (sym (replicate-append-replicate {A = ℕ} (n - 5) 5 1)) ∙ sym (append_assoc x (replicate (n - 5) 1) (replicate 5 1))))
