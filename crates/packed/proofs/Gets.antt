-- Cells copied out of the bytes of a track, part by part.
use Rattle.std.proofs.Common.{◌≡◌, ℕ, ◌+◌, ◌-◌, ◌*◌, ◌/◌, ◌%◌, ◌<◌, ◌≤◌, List, ◌++◌, map, length, get_or, take, drop, sym, ap, ◌∙◌, inl, inr, arith, length-append, length-drop}
use borrow.Rule.Slice.PartMut.{put_mid}
use Rattle.std.specs.List.{range_with_len}
use Rattle.std.proofs.lemmas.Bool.{cases_lt}
use Rattle.std.proofs.lemmas.List.{same_lists, get_or-take, get_or-drop, get_or_append_left, get_or-append_right, length-take-le, places}
use Rattle.std.proofs.lemmas.List.FromFn.{get_or-map-range_with_len, length-map-range_with_len}
use Rattle.packed.specs.Packed.{bit, packed_cell}
use Rattle.packed.proofs.Parts.{cell_in_byte}

-- the same numbers by two functions
pub counted_same : (f g : ℕ → ℕ) (p n : ℕ) → ((i : ℕ) → i < n → f (p + i) ≡ g (p + i)) → map f (range_with_len p n) ≡ map g (range_with_len p n)
counted_same f g p n e =
    same_lists _ _ (length-map-range_with_len f p n ∙ sym (length-map-range_with_len g p n))
    (λ i d h.
    let b : i < n = omega (arith, length-map-range_with_len f p n) in
    get_or-map-range_with_len f p n i (p + i) d b (omega arith) ∙ e i b ∙ sym (get_or-map-range_with_len g p n i (p + i) d b (omega arith)))

-- some bits of one byte
pub bits_of_byte : (bytes : List ℕ) (p n m : ℕ) → p % 8 + n ≤ 8 → m ≡ n
    → take m (drop (p % 8) (map (bit (get_or bytes (p / 8) 0)) (range_with_len 0 8))) ≡ map (packed_cell bytes 0) (range_with_len p n)
bits_of_byte bytes p n m fits e =
    let f : ℕ → ℕ = bit (get_or bytes (p / 8) 0) in
    let cells = map f (range_with_len 0 8) in
    let long : length cells ≡ 8 = length-map-range_with_len f 0 8 in
    let l : length (take m (drop (p % 8) cells)) ≡ n = length-take-le m (drop (p % 8) cells) (omega (arith, length-drop (p % 8) cells)) ∙ e in
    same_lists _ _ (l ∙ sym (length-map-range_with_len (packed_cell bytes 0) p n))
    (λ i d h.
    let b : i < n = omega arith in
    get_or-take m (drop (p % 8) cells) i d (omega arith)
    ∙ get_or-drop (p % 8) cells i d
    ∙ get_or-map-range_with_len f 0 8 (p % 8 + i) (p % 8 + i) d (omega arith) (omega arith)
    ∙ cell_in_byte bytes (p / 8) (p % 8 + i) (p + i) (omega arith) (omega arith)
    ∙ sym (get_or-map-range_with_len (packed_cell bytes 0) p n i (p + i) d b (omega arith)))

-- eight cells more, of one byte
pub byte_more : (bytes out part : List ℕ) (k n : ℕ) → 8 * k + 8 ≤ length out → n ≡ 8 → part ≡ map (bit (get_or bytes k 0)) (range_with_len 0 8)
    → ((i : ℕ) → i < 8 * k → get_or out i 0 ≡ packed_cell bytes 0 i)
    → (i : ℕ) → i < 8 * (k + 1) → get_or (put_mid (8 * k) n out part) i 0 ≡ packed_cell bytes 0 i
byte_more bytes out part k n fits e is before i h =
    let f : ℕ → ℕ = bit (get_or bytes k 0) in
    let l : length part ≡ 8 = ap length is ∙ length-map-range_with_len f 0 8 in
    elim (cases_lt i (8 * k)) [
      | inl q ↦
          let same : get_or (put_mid (8 * k) n out part) i 0 ≡ get_or out i 0 = grind (arith, places) in
          same ∙ before i q
      | inr q ↦
          let same : get_or (put_mid (8 * k) n out part) i 0 ≡ get_or part (i - 8 * k) 0 = grind (arith, places) in
          same ∙ ap (λ (xs : List ℕ). get_or xs (i - 8 * k) 0) is
          ∙ get_or-map-range_with_len f 0 8 (i - 8 * k) (i - 8 * k) 0 (omega arith) (omega arith)
          ∙ cell_in_byte bytes k (i - 8 * k) i (omega arith) (omega arith)
    ]

-- n numbers and then m, counted on
pub both_parts : (f g h : ℕ → ℕ) (a b p n m l : ℕ) (x y : List ℕ) → x ≡ map f (range_with_len a n) → y ≡ map g (range_with_len b m) → l ≡ n + m
    → ((i : ℕ) → i < n → f (a + i) ≡ h (p + i)) → ((i : ℕ) → i < m → g (b + i) ≡ h (p + (n + i)))
    → x ++ y ≡ map h (range_with_len p l)
both_parts f g h a b p n m l x y ex ey e front back =
    let lx : length x ≡ n = ap length ex ∙ length-map-range_with_len f a n in
    let ly : length y ≡ m = ap length ey ∙ length-map-range_with_len g b m in
    same_lists _ _ (length-append x y ∙ omega arith ∙ sym (length-map-range_with_len h p l))
    (λ i d k.
    let long : i < l = omega (arith, length-append x y) in
    elim (cases_lt i n) [
      | inl q ↦
          get_or_append_left x y d i (omega arith)
          ∙ ap (λ (z : List ℕ). get_or z i d) ex
          ∙ get_or-map-range_with_len f a n i (a + i) d q (omega arith)
          ∙ front i q
      | inr q ↦
          let s : p + (n + (i - n)) ≡ p + i = omega arith in
          get_or-append_right x y n i d lx q
          ∙ ap (λ (z : List ℕ). get_or z (i - n) d) ey
          ∙ get_or-map-range_with_len g b m (i - n) (b + (i - n)) d (omega arith) (omega arith)
          ∙ back (i - n) (omega arith)
          ∙ ap h s
    ]
    ∙ sym (get_or-map-range_with_len h p l i (p + i) d long (omega arith)))
