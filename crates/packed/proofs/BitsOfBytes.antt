-- The bits of a byte, counted from the high one.
use Rattle.std.specs.Prelude.{◌≡◌, ℕ, zero, suc, ◌-◌, ◌/◌, ◌%◌, ◌^◌, ◌<◌, cond, ◌==◌, ◌≢◌, refl}
use Rattle.std.proofs.Common.{ap, ◌∙◌, arith}
use Rattle.std.specs.Int.Bits.{bit_and, bit_or, and_zero_r, or_zero_r}
use Rattle.std.proofs.lemmas.Nat.{and_shr, and_mod, or_shr, or_mod, and_mask}
use Rattle.std.proofs.lemmas.Bool.{eq-eqb, ne_eqb}
use Rattle.packed.specs.Packed.{bit}
use Rattle.packed.specs.PackedLaws.{bit_small}
use Rattle.packed.proofs.Computed.{same_below_both}

pub bit-and : (a b j : ℕ) → bit (bit_and a b) j ≡ bit_and (bit a j) (bit b j)
unfolding bit
bit-and a b j = ap (λ x. x % 2) (and_shr a b (7 - j)) ∙ and_mod (a / 2 ^ (7 - j)) (b / 2 ^ (7 - j)) 1

pub bit-or : (a b j : ℕ) → bit (bit_or a b) j ≡ bit_or (bit a j) (bit b j)
unfolding bit
bit-or a b j = ap (λ x. x % 2) (or_shr a b (7 - j)) ∙ or_mod (a / 2 ^ (7 - j)) (b / 2 ^ (7 - j)) 1

-- the bits of the weight of the bit j, and of all the others together
weight_bit : (j i : ℕ) → j < 8 → i < 8 → bit (128 / 2 ^ j) i ≡ cond (i == j) 1 0
unfolding bit
weight_bit = same_below_both (λ j i. bit (128 / 2 ^ j) i) (λ j i. cond (i == j) 1 0) 8 8 refl

rest_bit : (j i : ℕ) → j < 8 → i < 8 → bit (255 - 128 / 2 ^ j) i ≡ cond (i == j) 0 1
unfolding bit
rest_bit = same_below_both (λ j i. bit (255 - 128 / 2 ^ j) i) (λ j i. cond (i == j) 0 1) 8 8 refl

and_one : (x : ℕ) → x < 2 → bit_and x 1 ≡ x
and_one x h = and_mask x 1 ∙ omega arith

or_one : (x : ℕ) → x < 2 → bit_or x 1 ≡ 1
or_one zero h = refl
or_one (suc zero) h = refl
or_one (suc (suc x)) h = absurd (omega arith)

pub cleared_bit : (b j : ℕ) → j < 8 → bit (bit_and b (255 - 128 / 2 ^ j)) j ≡ 0
cleared_bit b j h = bit-and b (255 - 128 / 2 ^ j) j ∙ ap (bit_and (bit b j)) (rest_bit j j h h ∙ ap (λ t. cond t 0 1) (eq-eqb j j refl)) ∙ and_zero_r (bit b j)

pub cleared_others : (b j i : ℕ) → j < 8 → i < 8 → (i ≢ j) → bit (bit_and b (255 - 128 / 2 ^ j)) i ≡ bit b i
cleared_others b j i h k n = bit-and b (255 - 128 / 2 ^ j) i ∙ ap (bit_and (bit b i)) (rest_bit j i h k ∙ ap (λ t. cond t 0 1) (ne_eqb i j n)) ∙ and_one (bit b i) (bit_small b i)

pub set_bit : (b j : ℕ) → j < 8 → bit (bit_or b (128 / 2 ^ j)) j ≡ 1
set_bit b j h = bit-or b (128 / 2 ^ j) j ∙ ap (bit_or (bit b j)) (weight_bit j j h h ∙ ap (λ t. cond t 1 0) (eq-eqb j j refl)) ∙ or_one (bit b j) (bit_small b j)

pub set_others : (b j i : ℕ) → j < 8 → i < 8 → (i ≢ j) → bit (bit_or b (128 / 2 ^ j)) i ≡ bit b i
set_others b j i h k n = bit-or b (128 / 2 ^ j) i ∙ ap (bit_or (bit b i)) (weight_bit j i h k ∙ ap (λ t. cond t 1 0) (ne_eqb i j n)) ∙ or_zero_r (bit b i)
