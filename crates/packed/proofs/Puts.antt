-- Cells put into the bytes of a packed store, one after the other.
use Rattle.std.specs.Prelude.{◌≡◌, ℕ, ◌+◌, ◌-◌, ◌*◌, ◌/◌, ◌%◌, ◌<◌, ◌≤◌, List, ◌++◌, map, length, take, drop, slice_index, slice_set, zero, suc, refl}
use Rattle.std.proofs.Common.{get_or, sym, ap, subst, ◌∙◌, inl, inr, arith, take-append-drop, length-drop, take-add}
use Rattle.std.specs.List.{range_with_len}
use Rattle.std.proofs.lemmas.List.{length-take-le, length-append, length-map, get_or-take, get_or-drop, get_or-set_same, get_or-set_other, get_or_append_left, get_or-append_right, get_or-map, same_lists}
use Rattle.std.proofs.lemmas.Bool.{cases_eq, cases_lt}
use Rattle.std.proofs.lemmas.List.FromFn.{length-map-range_with_len, get_or-map-range_with_len}
use Rattle.tape.specs.Tape.{cell}
use Rattle.packed.specs.Packed.{bit, packed_bytes, packed_cell, packed_cells}
use Rattle.packed.specs.Packing.{Merged, Put}
use Rattle.packed.proofs.Parts.{same_cell, cell_within, cell_from}
use Rattle.std.specs.Simd.{first_chunks}
use Rattle.std.proofs.lemmas.List.{drop-drop, places}
use Rattle.std.proofs.lemmas.Slice.{between-put_mid}
use borrow.Rule.Slice.PartMut.{put_mid}

-- one byte written, at k
pub put_byte : (base p k v : ℕ) (xs a : List ℕ) → k ≡ base + p / 8 → 0 < length xs → p % 8 + length xs ≤ 8 → k < length a
    → Merged (slice_index a k) (p % 8) xs v → Put base p xs a (slice_set a k v)
unfolding packed_cell
put_byte base p k v xs a e some fits in' m = record {
  before = λ q h. elim (cases_eq (q / 8) (p / 8)) [
    | inl r ↦
        let at : base + q / 8 ≡ k = omega arith in
        ap (λ (n : ℕ). bit (slice_index (slice_set a k v) n) (q % 8)) at
        ∙ ap (λ (n : ℕ). bit n (q % 8)) (get_or-set_same a k v 0 in')
        ∙ m.before (q % 8) (omega arith)
        ∙ ap (λ (n : ℕ). bit (slice_index a n) (q % 8)) (sym at)
    | inr n ↦ ap (λ (x : ℕ). bit x (q % 8)) (get_or-set_other a k (base + q / 8) v 0 (omega arith))
  ];
  these = λ i h.
      let at : base + (p + i) / 8 ≡ k = omega arith in
      let r : (p + i) % 8 ≡ p % 8 + i = omega arith in
      ap (λ (n : ℕ). bit (slice_index (slice_set a k v) n) ((p + i) % 8)) at
      ∙ ap (λ (n : ℕ). bit n ((p + i) % 8)) (get_or-set_same a k v 0 in')
      ∙ ap (bit v) r ∙ m.these i h;
  below = λ i h. get_or-set_other a k i v 0 (omega arith);
  above = λ i h. get_or-set_other a k i v 0 (omega arith);
}

-- more cells after them
pub put_more : (base p n : ℕ) (xs ys a b c : List ℕ) → n ≡ p + length xs → Put base p xs a b → Put base n ys b c → Put base p (xs ++ ys) a c
put_more base p n xs ys a b c e f g =
    let l = length-append xs ys in record {
      before = λ q h. g.before q (omega arith) ∙ f.before q h;
      these = λ i h. elim (cases_lt i (length xs)) [
        | inl k ↦ g.before (p + i) (omega arith) ∙ f.these i k ∙ ap cell (sym (get_or_append_left xs ys 0 i k))
        | inr k ↦
            let s : p + i ≡ n + (i - length xs) = omega arith in
            ap (packed_cell c base) s ∙ g.these (i - length xs) (omega arith) ∙ ap cell (sym (get_or-append_right xs ys (length xs) i 0 refl k))
      ];
      below = λ k h. g.below k h ∙ f.below k h;
      above = λ k h. g.above k (omega arith) ∙ f.above k (omega arith);
    }

-- the track's cells afterwards
pub put_cells : (base p : ℕ) (xs a b : List ℕ) → Put base p xs a b → packed_cells b base (p + length xs) ≡ packed_cells a base p ++ map cell xs
unfolding packed_cells
put_cells base p xs a b f =
    let la = length-map-range_with_len (packed_cell a base) 0 p in
    let lb = length-map-range_with_len (packed_cell b base) 0 (p + length xs) in
    let lm = length-map xs cell in
    same_lists _ _ (lb ∙ sym (length-append (map (packed_cell a base) (range_with_len 0 p)) (map cell xs) ∙ omega arith))
    (λ k d h. get_or-map-range_with_len (packed_cell b base) 0 (p + length xs) k k d (omega arith) (omega arith) ∙ elim (cases_lt k p) [
      | inl l ↦ f.before k l ∙ sym (get_or_append_left (map (packed_cell a base) (range_with_len 0 p)) (map cell xs) d k (omega arith) ∙ get_or-map-range_with_len (packed_cell a base) 0 p k k d l (omega arith))
      | inr l ↦
          let s : k ≡ p + (k - p) = omega arith in
          ap (packed_cell b base) s ∙ f.these (k - p) (omega arith)
          ∙ sym (get_or-append_right (map (packed_cell a base) (range_with_len 0 p)) (map cell xs) p k d la l ∙ get_or-map cell xs (k - p) 0 d (omega arith))
    ])

-- the cells of a track whose bytes are as they were
pub same_cells : (base n : ℕ) (a b : List ℕ) → ((k : ℕ) → base ≤ k → k < base + packed_bytes n → slice_index b k ≡ slice_index a k) → packed_cells b base n ≡ packed_cells a base n
unfolding packed_cells packed_cell
same_cells base n a b f =
    let la = length-map-range_with_len (packed_cell a base) 0 n in
    let lb = length-map-range_with_len (packed_cell b base) 0 n in
    same_lists _ _ (lb ∙ sym la)
    (λ k d h. get_or-map-range_with_len (packed_cell b base) 0 n k k d (omega arith) (omega arith)
    ∙ ap (λ (x : ℕ). bit x (k % 8)) (f (base + k / 8) (omega arith) (omega arith))
    ∙ sym (get_or-map-range_with_len (packed_cell a base) 0 n k k d (omega arith) (omega arith)))

-- a chunk of n, of the first m of them
pub first_chunks_at : (n m : ℕ) (xs : List ℕ) (k : ℕ) (d : List ℕ) → k < m → get_or (first_chunks n m xs) k d ≡ take n (drop (n * k) xs)
first_chunks_at n zero xs k d h = absurd (omega arith)
first_chunks_at n (suc m) xs zero d h =
    let s : 0 ≡ n * 0 = omega arith in
    ap (λ (i : ℕ). take n (drop i xs)) s
first_chunks_at n (suc m) xs (suc k) d h =
    let s : n + n * k ≡ n * suc k = omega arith in
    first_chunks_at n m (drop n xs) k d (omega arith) ∙ ap (take n) (drop-drop (n * k) n xs ∙ ap (λ (i : ℕ). drop i xs) s)

-- eight cells more, as a whole byte
pub put_eight_from : (base p k v : ℕ) (xs a b : List ℕ) → p % 8 ≡ 0 → 8 * k + 8 ≤ length xs → base + p / 8 + k < length b
    → Put base p (take (8 * k) xs) a b → ((old : ℕ) → Merged old 0 (take 8 (drop (8 * k) xs)) v)
    → Put base p (take (8 * (k + 1)) xs) a (slice_set b (base + p / 8 + k) v)
put_eight_from base p k v xs a b whole fits in' f m =
    let at = base + p / 8 + k in
    let l : length (take (8 * k) xs) ≡ 8 * k = length-take-le (8 * k) xs (omega arith) in
    let l8 : length (take 8 (drop (8 * k) xs)) ≡ 8 = length-take-le 8 (drop (8 * k) xs) (omega (arith, length-drop (8 * k) xs)) in
    let r : 0 ≡ (p + 8 * k) % 8 = omega arith in
    let g = put_byte base (p + 8 * k) at v (take 8 (drop (8 * k) xs)) b (omega arith) (omega arith) (omega arith) in'
    (subst (λ n. Merged (slice_index b at) n (take 8 (drop (8 * k) xs)) v) r (m (slice_index b at))) in
    let s : 8 * k + 8 ≡ 8 * (k + 1) = omega arith in
    subst (λ n. Put base p (take n xs) a (slice_set b at v)) s
    (subst (λ ys. Put base p ys a (slice_set b at v)) (sym (take-add (8 * k) 8 xs))
    (put_more base p (p + 8 * k) (take (8 * k) xs) (take 8 (drop (8 * k) xs)) a b (slice_set b at v) (omega arith) f g))

-- of a track whose bytes stand first
pub put_eight : (k v : ℕ) (xs a b : List ℕ) → 8 * k + 8 ≤ length xs → k < length b
    → Put 0 0 (take (8 * k) xs) a b → ((old : ℕ) → Merged old 0 (take 8 (drop (8 * k) xs)) v)
    → Put 0 0 (take (8 * (k + 1)) xs) a (slice_set b k v)
put_eight k v xs a b fits in' f m =
    let at : 0 + 0 / 8 + k ≡ k = omega arith in
    subst (λ n. Put 0 0 (take (8 * (k + 1)) xs) a (slice_set b n v)) at (put_eight_from 0 0 k v xs a b (omega arith) fits (omega arith) f m)

-- all of a list, put in two parts
pub put_both : (base p n m : ℕ) (xs a b c : List ℕ) → n ≤ length xs → m ≡ p + n → Put base p (take n xs) a b → Put base m (drop n xs) b c → Put base p xs a c
put_both base p n m xs a b c h e f g =
    subst (λ ys. Put base p ys a c) (take-append-drop n xs) (put_more base p m (take n xs) (drop n xs) a b c (omega (arith, length-take-le n xs h)) f g)

-- cells put into the n bytes from i on
pub put_within : (i n p : ℕ) (xs a b : List ℕ) → i + n ≤ length a → length b ≡ n → packed_bytes (p + length xs) ≤ n
    → Put 0 p xs (take n (drop i a)) b → Put i p xs a (put_mid i n a b)
put_within i n p xs a b h l w f = record {
  before = λ q k. new q (omega arith) ∙ f.before q k ∙ cell_within a i n q (omega arith);
  these = λ j k. new (p + j) (omega arith) ∙ f.these j k;
  below = λ k q. grind (arith, places);
  above = λ k q. elim (cases_lt k (i + n)) [
    | inl s ↦
        let e : i + (k - i) ≡ k = omega arith in
        let same : get_or (put_mid i n a b) k 0 ≡ get_or b (k - i) 0 = grind (arith, places) in
        same ∙ f.above (k - i) (omega arith) ∙ get_or-take n (drop i a) (k - i) 0 (omega arith) ∙ get_or-drop i a (k - i) 0 ∙ ap (λ (j : ℕ). get_or a j 0) e
    | inr s ↦ grind (arith, places)
  ];
}
  where
    part : take n (drop i (put_mid i n a b)) ≡ b
    part =
        let s : n ≡ i + n - i = omega arith in
        ap (λ (m : ℕ). take m (drop i (put_mid i n a b))) s ∙ between-put_mid i n a b (i + n) (omega arith) (omega arith)

    new : (q : ℕ) → q / 8 < n → packed_cell (put_mid i n a b) i q ≡ packed_cell b 0 q
    new q k = sym (cell_within (put_mid i n a b) i n q k) ∙ ap (λ (c : List ℕ). packed_cell c 0 q) part

-- cells put from the first of a byte on
pub put_from : (k p : ℕ) (xs a b : List ℕ) → Put k 0 xs a b → p ≡ 8 * k → Put 0 p xs a b
put_from k p xs a b f e = record {
  before = λ q h. same_cell a b q (f.below (q / 8) (omega arith));
  these = λ i h. sym (cell_from b k (0 + i) (p + i) (omega arith)) ∙ f.these i h;
  below = λ i h. absurd (omega arith);
  above = λ i h. f.above i (omega arith);
}
