-- The cells of a part of some bytes.
use Rattle.std.proofs.Common.{◌≡◌, ℕ, ◌+◌, ◌*◌, ◌/◌, ◌%◌, ◌<◌, List, take, drop, get_or, sym, ap, ◌∙◌, arith}
use Rattle.std.proofs.lemmas.List.{get_or-take, get_or-drop}
use Rattle.packed.specs.Packed.{bit, packed_cell}

pub cell_in_byte : (bytes : List ℕ) (k j p : ℕ) → k ≡ p / 8 → j ≡ p % 8 → bit (get_or bytes k 0) j ≡ packed_cell bytes 0 p
unfolding packed_cell
cell_in_byte bytes k j p e f =
    let at : k ≡ 0 + p / 8 = omega arith in
    ap (λ (i : ℕ). bit (get_or bytes i 0) j) at ∙ ap (bit (get_or bytes (0 + p / 8) 0)) f

pub same_cell : (a b : List ℕ) (p : ℕ) → get_or b (p / 8) 0 ≡ get_or a (p / 8) 0 → packed_cell b 0 p ≡ packed_cell a 0 p
unfolding packed_cell
same_cell a b p e =
    let at : 0 + p / 8 ≡ p / 8 = omega arith in
    ap (λ (v : ℕ). bit v (p % 8)) (ap (λ (k : ℕ). get_or b k 0) at ∙ e ∙ sym (ap (λ (k : ℕ). get_or a k 0) at))

pub cell_drop : (bytes : List ℕ) (i p : ℕ) → packed_cell (drop i bytes) 0 p ≡ packed_cell bytes i p
unfolding packed_cell
cell_drop bytes i p =
    let at : i + (0 + p / 8) ≡ i + p / 8 = omega arith in
    ap (λ (b : ℕ). bit b (p % 8)) (get_or-drop i bytes (0 + p / 8) 0 ∙ ap (λ (k : ℕ). get_or bytes k 0) at)

pub cell_take : (bytes : List ℕ) (n p : ℕ) → p / 8 < n → packed_cell (take n bytes) 0 p ≡ packed_cell bytes 0 p
unfolding packed_cell
cell_take bytes n p h = ap (λ (b : ℕ). bit b (p % 8)) (get_or-take n bytes (0 + p / 8) 0 (omega arith))

pub cell_within : (bytes : List ℕ) (i n p : ℕ) → p / 8 < n → packed_cell (take n (drop i bytes)) 0 p ≡ packed_cell bytes i p
cell_within bytes i n p h = cell_take (drop i bytes) n p h ∙ cell_drop bytes i p

-- counted from the first of all the bytes
pub cell_from : (bytes : List ℕ) (k p q : ℕ) → q ≡ 8 * k + p → packed_cell bytes k p ≡ packed_cell bytes 0 q
unfolding packed_cell
cell_from bytes k p q e =
    let at : k + p / 8 ≡ 0 + q / 8 = omega arith in
    let r : p % 8 ≡ q % 8 = omega arith in
    ap (λ (i : ℕ). bit (get_or bytes i 0) (p % 8)) at ∙ ap (bit (get_or bytes (0 + q / 8) 0)) r
