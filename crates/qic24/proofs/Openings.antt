-- A register of the last fourteen cells shows the opening exactly where one ends.
use Rattle.std.proofs.Common.{◌≡◌, ℕ, suc, ◌+◌, ◌-◌, ◌*◌, ◌%◌, ◌^◌, ◌<◌, ◌≤◌, List, [], ◌∷◌, ◌++◌, length, get_or, take, drop, sym, refl, ap, ◌∙◌, subst, ⊎_elim, mul_assoc, mul_comm, add-mul, pow-suc, zero-add, arith, lit<}
use native.Mathlib.Nat.{pow-le-pow_right}
use Rattle.std.specs.List.{AllByRecursion}
use Rattle.std.proofs.lemmas.List.{take-append-drop, length-take-le, length-drop, drop-drop, drop-take, take_more, length-take, get_or-drop}
use Rattle.std.proofs.ByRecursion.{All-take, All-drop, All-get_or}
use Rattle.std.proofs.lemmas.List.Sums.{fold-append}
use Rattle.std.proofs.lemmas.Bool.{cases_lt}
use Rattle.std.proofs.lemmas.Nat.{pow_below, mod_low}
use Rattle.qic24.specs.Cells.{fold, shift_in, number_of, bits, Cell}
use Rattle.qic24.specs.Opening.{opening, Opens}
use Rattle.qic24.proofs.Binary.{number_of-below, number_of-push, bits-number}

from-number : (xs : List ℕ) (z : ℕ) → fold shift_in z xs ≡ z * 2 ^ length xs + number_of xs
from-number [] z = omega arith
from-number (x ∷ xs) z =
    let w = 2 ^ length xs in
    let p : 2 ^ suc (length xs) ≡ w * 2 = pow-suc 2 (length xs) in
    let d : (z * 2 + x) * w ≡ z * 2 * w + x * w = add-mul (z * 2) x w in
    let m : z * 2 * w ≡ z * 2 ^ suc (length xs) = mul_assoc z 2 w ∙ ap (λ n. z * n) (mul_comm 2 w ∙ sym p) in
    let k : z * 2 ^ suc (length xs) + (x * w + number_of xs) ≡ z * 2 ^ suc (length xs) + number_of (x ∷ xs) =
    ap (λ n. z * 2 ^ suc (length xs) + n) (ap (λ n. n * w + number_of xs) (sym (zero-add x)) ∙ sym (from-number xs (0 * 2 + x))) in
    from-number xs (z * 2 + x) ∙ omega (arith, d, m) ∙ k

-- the last fourteen of some cells as a number
low_part : (xs : List ℕ) (n : ℕ) → AllByRecursion Cell xs → length xs ≡ n → 14 ≤ n → number_of xs % 16384 ≡ number_of (drop (n - 14) xs)
low_part xs n h l k =
    let ys = take (n - 14) xs in
    let zs = drop (n - 14) xs in
    let lz : length zs ≡ 14 = length-drop (n - 14) xs ∙ omega arith in
    let e : number_of xs ≡ number_of ys * 2 ^ 14 + number_of zs =
    ap number_of (sym (take-append-drop (n - 14) xs)) ∙ fold-append shift_in 0 ys zs ∙ from-number zs (number_of ys) ∙ ap (λ w. number_of ys * 2 ^ w + number_of zs) lz in
    let b : number_of zs < 2 ^ 14 = subst (λ w. number_of zs < 2 ^ w) lz (number_of-below zs (All-drop Cell (n - 14) xs h)) in
    ap (λ v. v % 16384) e ∙ mod_low (number_of ys) 14 (number_of zs) b

opening-is : bits 14 16359 ≡ opening
unfolding bits
opening-is = refl

-- what the register shows at the place i, of the cells since s
module _ (c : List ℕ) (h : AllByRecursion Cell c) (s i : ℕ) (le : s ≤ i) (in' : i ≤ length c) where
  since : List ℕ
  since = take (i - s) (drop s c)

  length_since : length (take (i - s) (drop s c)) ≡ i - s
  length_since = length-take-le (i - s) (drop s c) (rw length-drop (omega arith))

  binary : AllByRecursion Cell (take (i - s) (drop s c))
  binary = All-take Cell (i - s) (drop s c) (All-drop Cell s c h)

  last_part : 14 ≤ i - s → drop (i - s - 14) (take (i - s) (drop s c)) ≡ take 14 (drop (i - 14) c)
  last_part k =
      let a : i - s - 14 + 14 ≡ i - s = omega arith in
      let b : s + (i - s - 14) ≡ i - 14 = omega arith in
      ap (λ n. drop (i - s - 14) (take n (drop s c))) (sym a) ∙ drop-take (i - s - 14) 14 (drop s c) ∙ ap (take 14) (drop-drop (i - s - 14) s c ∙ ap (λ n. drop n c) b)

  pub shows : number_of (take (i - s) (drop s c)) % 16384 ≡ 16359 → (14 ≤ i - s) × Opens c i
  shows e = ⊎_elim
      (λ (few : i - s < 14).
      let b = number_of-below (take (i - s) (drop s c)) binary in
      let p : 2 ^ (i - s) < 2 ^ 14 = pow_below (i - s) 14 few in
      let w : i - s ≤ 13 = omega arith in
      let q : 2 ^ (i - s) ≤ 2 ^ 13 = pow-le-pow_right (lit< tt) w in
      let r : number_of (take (i - s) (drop s c)) < 2 ^ (i - s) = subst (λ n. number_of (take (i - s) (drop s c)) < 2 ^ n) length_since b in
      absurd (omega arith))
      (λ (k : 14 ≤ i - s).
      let zs = take 14 (drop (i - 14) c) in
      let v : number_of zs ≡ 16359 = ap number_of (sym (last_part k)) ∙ sym (low_part (take (i - s) (drop s c)) (i - s) binary length_since k) ∙ e in
      let l : length zs ≡ 14 = length-take-le 14 (drop (i - 14) c) (rw length-drop (omega arith)) in
      let z : bits (length zs) (number_of zs) ≡ zs = bits-number zs (All-take Cell 14 (drop (i - 14) c) (All-drop Cell (i - 14) c h)) in
      (k, (omega arith, sym z ∙ ap (λ n. bits n (number_of zs)) l ∙ ap (bits 14) v ∙ opening-is)))
      (cases_lt (i - s) 14)

  pub shown : 14 ≤ i - s → take 14 (drop (i - 14) c) ≡ opening → number_of (take (i - s) (drop s c)) % 16384 ≡ 16359
  shown k e = low_part (take (i - s) (drop s c)) (i - s) binary length_since k ∙ ap number_of (last_part k ∙ e)

-- one cell more
pub seen_more : (c : List ℕ) (s i v : ℕ) → AllByRecursion Cell c → s ≤ i → i < length c → v ≡ number_of (take (i - s) (drop s c)) % 16384 → v % 8192 * 2 + get_or c i 0 ≡ number_of (take (i + 1 - s) (drop s c)) % 16384
seen_more c s i v b le h e =
    let xs = take (i - s) (drop s c) in
    let d : get_or (drop s c) (i - s) 0 ≡ get_or c i 0 = get_or-drop s c (i - s) 0 ∙ ap (λ n. get_or c n 0) (omega arith) in
    let n : i + 1 - s ≡ i - s + 1 = omega arith in
    let t : take (i + 1 - s) (drop s c) ≡ xs ++ get_or c i 0 ∷ [] = ap (λ m. take m (drop s c)) n ∙ take_more (drop s c) (i - s) 0 (rw length-drop (omega arith)) ∙ ap (λ m. xs ++ m ∷ []) d in
    let p = ap number_of t ∙ number_of-push xs (get_or c i 0) in
    let q : get_or c i 0 < 2 = All-get_or Cell c i 0 h b in
    omega arith

-- an opening's place lies within the cells
pub opens_within : (c : List ℕ) (p : ℕ) → Opens c p → p ≤ length c
opens_within c p (k, e) =
    let l : length (take 14 (drop (p - 14) c)) ≡ 14 = ap (λ (z : List ℕ). length z) e in
    let m = length-take 14 (drop (p - 14) c) in
    let d = length-drop (p - 14) c in
    omega arith
