-- Cells as numbers and numbers as cells.
use Rattle.std.proofs.Common.{◌≡◌, ℕ, zero, suc, ◌+◌, ◌*◌, ◌/◌, ◌%◌, ◌^◌, ◌<◌, ◌≤◌, eqb, List, [], ◌∷◌, ◌++◌, map, length, get_or, take, replicate, sym, refl, ap, ◌∙◌, subst, add-zero, add-suc, suc-add, pow-suc, zero-add, add-one, arith, lit<, lit≤}
use native.Mathlib.Nat.{min-le_left}
use Rattle.std.specs.List.{AllByRecursion}
use Rattle.std.proofs.lemmas.List.{length_push, length-append, append-nil, append_assoc, take_more, take_all, length-take-le, map_more, replicate_more, length-replicate, length-map, length-take}
use Rattle.std.proofs.lemmas.List.Sums as sums
use Rattle.std.proofs.lemmas.Nat.{pow_below}
use Rattle.std.proofs.ByRecursion.{All-push, All-take, All-get_or}
use Rattle.std.proofs.lemmas.Bool.{cond_both}
use Rattle.qic24.specs.Cells.{fold, concat, bits, shift_in, number_of, Cell, cell, nibble_codes, nibble_cells, byte_cells, mark_cells}
use Rattle.qic24.specs.Copy.{Numbered, ones, mark_data, preamble_ones, body, data_cells, coded, address, two_bytes, item_crc}
use Rattle.qic24.specs.declared.layout.Preamble.{Preamble}
use Rattle.qic24.specs.declared.layout.Preamble.TheVariants.{Normal, Elongated, Long}

-- the library's, with the start last
pub fold-append : {A B : Type 0} (f : B → A → B) (xs ys : List A) (z : B) → fold f z (xs ++ ys) ≡ fold f (fold f z xs) ys
fold-append f xs ys z = sums.fold-append f z xs ys

pub number_of-push : (xs : List ℕ) (c : ℕ) → number_of (xs ++ c ∷ []) ≡ number_of xs * 2 + c
number_of-push xs c = sums.fold_push shift_in 0 xs c

pub length-bits : (n v : ℕ) → length (bits n v) ≡ n
unfolding bits
length-bits zero v = refl
length-bits (suc n) v = length_push (bits n (v / 2)) (v % 2) ∙ ap (λ k. k + 1) (length-bits n (v / 2)) ∙ add-one n

pub bits-binary : (n v : ℕ) → AllByRecursion Cell (bits n v)
unfolding bits
bits-binary zero v = tt
bits-binary (suc n) v = All-push Cell (bits n (v / 2)) (v % 2) (bits-binary n (v / 2)) (omega arith)

pub number_of-bits : (n v : ℕ) → v < 2 ^ n → number_of (bits n v) ≡ v
unfolding bits
number_of-bits zero v h = omega arith
number_of-bits (suc n) v h =
    let p = pow-suc 2 n in
    number_of-push (bits n (v / 2)) (v % 2) ∙ ap (λ k. k * 2 + v % 2) (number_of-bits n (v / 2) (omega arith)) ∙ omega arith

-- from a number z on
from-below : (xs : List ℕ) (z n : ℕ) → AllByRecursion Cell xs → z < 2 ^ n → fold shift_in z xs < 2 ^ (n + length xs)
from-below [] z n h k = subst (λ m. z < 2 ^ m) (sym (add-zero n)) k
from-below (x ∷ xs) z n (h, hs) k =
    let p = pow-suc 2 n in
    subst (λ m. fold shift_in (z * 2 + x) xs < 2 ^ m) (suc-add n (length xs) ∙ sym (add-suc n (length xs))) (from-below xs (z * 2 + x) (suc n) hs (omega arith))

pub number_of-below : (xs : List ℕ) → AllByRecursion Cell xs → number_of xs < 2 ^ length xs
number_of-below xs h = subst (λ m. number_of xs < 2 ^ m) (zero-add (length xs)) (from-below xs 0 0 h (lit< tt))

bits-number-at : (n : ℕ) (xs : List ℕ) → length xs ≡ n → AllByRecursion Cell xs → bits n (number_of xs) ≡ xs
unfolding bits
bits-number-at zero [] e h = refl
bits-number-at zero (x ∷ xs) e h = absurd (omega arith)
bits-number-at (suc n) xs e h =
    let w = number_of (take n xs) in
    let d = get_or xs n 0 in
    let s : take n xs ++ d ∷ [] ≡ xs = sym (take_more xs n 0 (omega arith)) ∙ take_all (n + 1) xs (omega arith) in
    let k : number_of xs ≡ w * 2 + d = ap number_of (sym s) ∙ number_of-push (take n xs) d in
    let b : d < 2 = All-get_or Cell xs n 0 (omega arith) h in
    let i : bits n w ≡ take n xs = bits-number-at n (take n xs) (length-take-le n xs (omega arith)) (All-take Cell n xs h) in
    let q : number_of xs / 2 ≡ w = omega arith in
    let m : number_of xs % 2 ≡ d = omega arith in
    rw (q, m, i) s

pub bits-number : (xs : List ℕ) → AllByRecursion Cell xs → bits (length xs) (number_of xs) ≡ xs
bits-number xs h = bits-number-at (length xs) xs refl h

pub cell-binary : (b : ℕ) → cell b < 2
cell-binary b = cond_both (eqb b 0) 0 1 (λ x. x < 2) (λ e. omega arith) (λ e. omega arith)

pub cells_binary : (bs : List ℕ) → AllByRecursion Cell (map cell bs)
cells_binary [] = tt
cells_binary (b ∷ bs) = (cell-binary b, cells_binary bs)

pub length_nibble : (n : ℕ) → length (nibble_cells n) ≡ 5
unfolding nibble_cells
length_nibble n = length-bits 5 (get_or nibble_codes n 0)

pub length_byte : (b : ℕ) → length (byte_cells b) ≡ 10
unfolding byte_cells
length_byte b = length-append (nibble_cells (b / 16)) (nibble_cells (b % 16)) ∙ ap (λ k. k + length (nibble_cells (b % 16))) (length_nibble (b / 16)) ∙ ap (λ k. 5 + k) (length_nibble (b % 16))

pub length-coded : (bs : List ℕ) → length (concat (map byte_cells bs)) ≡ length bs * 10
length-coded [] = refl
length-coded (b ∷ bs) =
    let h = length_byte b in
    let t = length-coded bs in
    length-append (byte_cells b) (concat (map byte_cells bs)) ∙ omega arith

-- one list more at the end
pub concat-push : (xs : List (List ℕ)) (x : List ℕ) → concat (xs ++ x ∷ []) ≡ concat xs ++ x
concat-push [] x = append-nil x
concat-push (y ∷ xs) x = ap (λ (z : List ℕ). y ++ z) (concat-push xs x) ∙ sym (append_assoc y (concat xs) x)

pub coded-more : (bs : List ℕ) (i : ℕ) → i < length bs → concat (map byte_cells (take (i + 1) bs)) ≡ concat (map byte_cells (take i bs)) ++ byte_cells (get_or bs i 0)
coded-more bs i h = ap concat (map_more byte_cells bs i 0 h) ∙ concat-push (map byte_cells (take i bs)) (byte_cells (get_or bs i 0))

pub mark_cells-is : mark_cells ≡ 0 ∷ 0 ∷ 1 ∷ 0 ∷ 1 ∷ 0 ∷ 0 ∷ 1 ∷ 0 ∷ 1 ∷ []
unfolding mark_cells bits
mark_cells-is = refl

-- a number of mark bytes
abbrev pub marks : ℕ → List ℕ
marks n = concat (replicate n mark_cells)

pub length-marks : (n : ℕ) → length (marks n) ≡ n * 10
length-marks zero = refl
length-marks (suc n) = length-append mark_cells (marks n) ∙ omega (arith, ap (λ (z : List ℕ). length z) mark_cells-is, length-marks n)

pub marks-more : (n : ℕ) → marks (n + 1) ≡ marks n ++ mark_cells
marks-more n = ap concat (sym (replicate_more n mark_cells)) ∙ concat-push (replicate n mark_cells) mark_cells

pub mark_data-at : (n : ℕ) → n ≡ 512 → marks n ≡ mark_data
unfolding mark_data
mark_data-at n e = ap (λ k. concat (replicate k mark_cells)) e

pub length-mark_data : length mark_data ≡ 5120
length-mark_data = at_512 512 refl
  where
    at_512 : (n : ℕ) → n ≡ 512 → length mark_data ≡ 5120
    at_512 n e = ap (λ (z : List ℕ). length z) (sym (mark_data-at n e)) ∙ length-marks n ∙ ap (λ k. k * 10) e

pub coded-append : (xs ys : List ℕ) → concat (map byte_cells (xs ++ ys)) ≡ concat (map byte_cells xs) ++ concat (map byte_cells ys)
coded-append [] ys = refl
coded-append (x ∷ xs) ys = ap (λ (z : List ℕ). byte_cells x ++ z) (coded-append xs ys) ∙ sym (append_assoc (byte_cells x) (concat (map byte_cells xs)) (concat (map byte_cells ys)))

-- the body of an item whose data field is whole
pub length_body : (t : ℕ) (i : Numbered) → length (data_cells i.content) ≡ 5120 → length (body t i) ≡ 5180
unfolding body
length_body t i h = length-append (data_cells i.content) (coded (address t i.number ++ two_bytes (item_crc t i))) ∙ omega (arith, length-coded (address t i.number ++ two_bytes (item_crc t i)))

pub length-ones : (n : ℕ) → length (ones n) ≡ n
unfolding ones
length-ones n = length-replicate n 1

pub few_ones : (p : Preamble) → preamble_ones p ≤ 15000
few_ones Normal = lit≤ tt
few_ones Elongated = lit≤ tt
few_ones Long = lit≤ tt

-- fewer than k cells as a number
pub part_small : (k i : ℕ) (bs : List ℕ) → i < k → number_of (map cell (take i bs)) < 2 ^ k
part_small k i bs h =
    let xs = map cell (take i bs) in
    let l : length xs ≤ i = subst (λ n. n ≤ i) (sym (length-map (take i bs) cell ∙ length-take i bs)) (min-le_left i (length bs)) in
    let q : 2 ^ length xs < 2 ^ k = pow_below (length xs) k (omega arith) in
    let b = number_of-below xs (cells_binary (take i bs)) in
    omega arith
