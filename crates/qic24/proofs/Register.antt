-- The register is linear over XOR, so a byte can be fed to it by one look into a table.
use Rattle.std.proofs.Common.{◌≡◌, ℕ, zero, suc, ◌*◌, ◌/◌, ◌%◌, ◌<◌, cond, eqb, List, [], ◌∷◌, ◌++◌, length, get_or, sym, refl, ap, ◌∙◌, add-zero, arith, lit<}
use lib.Bits.{bit_and, bit_xor, and_mask, xor_assoc, xor_comm, xor_mod, xor_shr, xor_block, xor_shifted, xor_lt, xor_zero_r}
use Rattle.std.specs.List.{AllByRecursion}
use Rattle.std.proofs.lemmas.Bool.{cond_both}
use Rattle.qic24.specs.Cells.{fold, bits}
use Rattle.qic24.specs.Crc.{crc_step, bits_of, crc_from, crc, remainder}
use Rattle.std.proofs.ByRecursion.{All-append}
use Rattle.std.proofs.lemmas.List.{append-nil}
use Rattle.qic24.specs.Tables.{Table}
use Rattle.std.proofs.lemmas.List.Sums.{fold-append}
use Rattle.qic24.proofs.Tables.{entry-is, same_below}
use Rattle.qic24.proofs.Binary.{length-bits, bits-binary}

-- the register moved up by one, with nothing coming in
abbrev pub shifted : ℕ → ℕ
shifted r = bit_xor ((r % 0x8000) * 2) ((r / 0x8000) * 0x1021)

-- n times
abbrev pub shifted_by : ℕ → ℕ → ℕ
shifted_by zero r = r
shifted_by (suc n) r = shifted_by n (shifted r)

pub xor_swap : (a b c d : ℕ) → bit_xor (bit_xor a b) (bit_xor c d) ≡ bit_xor (bit_xor a c) (bit_xor b d)
xor_swap a b c d =
    xor_assoc a b (bit_xor c d) ∙ ap (bit_xor a) (sym (xor_assoc b c d) ∙ ap (λ x. bit_xor x d) (xor_comm b c) ∙ xor_assoc c b d) ∙ sym (xor_assoc a c (bit_xor b d))

twice : (a b : ℕ) → bit_xor a b * 2 ≡ bit_xor (a * 2) (b * 2)
twice a b = simp (add-zero, add-zero) at (sym (xor_block 1 a b 0 0 (lit< tt) (lit< tt)))

-- the same at eight places
up : (a b : ℕ) → bit_xor a b * 256 ≡ bit_xor (a * 256) (b * 256)
up a b = simp (add-zero, add-zero) at (sym (xor_block 8 a b 0 0 (lit< tt) (lit< tt)))

times : (h k : ℕ) → h < 2 → k < 2 → bit_xor h k * 0x1021 ≡ bit_xor (h * 0x1021) (k * 0x1021)
times zero zero p q = refl
times zero (suc zero) p q = refl
times (suc zero) zero p q = refl
times (suc zero) (suc zero) p q = refl
times zero (suc (suc k)) p q = absurd (omega arith)
times (suc zero) (suc (suc k)) p q = absurd (omega arith)
times (suc (suc h)) k p q = absurd (omega arith)

shifted_below : (r : ℕ) → r < 65536 → shifted r < 65536
shifted_below r h = xor_lt 16 (r % 0x8000 * 2) (r / 0x8000 * 0x1021) (omega arith) (omega arith)

pub shifted_xor : (x y : ℕ) → x < 65536 → y < 65536 → shifted (bit_xor x y) ≡ bit_xor (shifted x) (shifted y)
shifted_xor x y h k =
    let a : bit_xor x y % 32768 * 2 ≡ bit_xor (x % 32768 * 2) (y % 32768 * 2) = ap (λ v. v * 2) (xor_mod x y 15) ∙ twice (x % 32768) (y % 32768) in
    let b : bit_xor x y / 32768 * 0x1021 ≡ bit_xor (x / 32768 * 0x1021) (y / 32768 * 0x1021) = ap (λ v. v * 0x1021) (xor_shr x y 15) ∙ times (x / 32768) (y / 32768) (omega arith) (omega arith) in
    rw (a, b) (xor_swap (x % 32768 * 2) (y % 32768 * 2) (x / 32768 * 4129) (y / 32768 * 4129))

pub shifted_by_xor : (n x y : ℕ) → x < 65536 → y < 65536 → shifted_by n (bit_xor x y) ≡ bit_xor (shifted_by n x) (shifted_by n y)
shifted_by_xor zero x y h k = refl
shifted_by_xor (suc n) x y h k = ap (shifted_by n) (shifted_xor x y h k) ∙ shifted_by_xor n (shifted x) (shifted y) (shifted_below x h) (shifted_below y k)

-- one bit into the register: what the register alone gives, and what the bit alone gives
step_below : (r b : ℕ) → r < 65536 → b < 2 → crc_step r b < 65536
unfolding crc_step
step_below r b h k = cond_both (eqb (r / 0x8000) b) ((r * 2) % 0x10000) (bit_xor ((r * 2) % 0x10000) 0x1021) (λ x. x < 65536) (λ e. omega arith) (λ e. xor_lt 16 ((r * 2) % 0x10000) 0x1021 (omega arith) (lit< tt))

split_at : (h m b : ℕ) → h < 2 → b < 2 → cond (eqb h b) m (bit_xor m 0x1021) ≡ bit_xor (bit_xor m (h * 0x1021)) (cond (eqb 0 b) 0 0x1021)
split_at zero m zero p q = sym (xor_zero_r (bit_xor m 0) ∙ xor_zero_r m)
split_at zero m (suc zero) p q = ap (λ x. bit_xor x 0x1021) (sym (xor_zero_r m))
split_at (suc zero) m zero p q = sym (xor_zero_r (bit_xor m 0x1021))
split_at (suc zero) m (suc zero) p q = sym (xor_assoc m 0x1021 0x1021 ∙ xor_zero_r m)
split_at zero m (suc (suc b)) p q = absurd (omega arith)
split_at (suc zero) m (suc (suc b)) p q = absurd (omega arith)
split_at (suc (suc h)) m b p q = absurd (omega arith)

step_splits : (r b : ℕ) → r < 65536 → b < 2 → crc_step r b ≡ bit_xor (shifted r) (crc_step 0 b)
unfolding crc_step
step_splits r b h k =
    let e : (r * 2) % 65536 ≡ r % 32768 * 2 = omega arith in
    rw e (split_at (r / 32768) (r % 32768 * 2) b (omega arith) k)

-- superposition: some bits into a register are the register moved up by as many, and the bits into a register of zeros
pub fold_splits : (bs : List ℕ) (r : ℕ) → r < 65536 → AllByRecursion (λ b. b < 2) bs → fold crc_step r bs ≡ bit_xor (shifted_by (length bs) r) (fold crc_step 0 bs)
fold_splits [] r h k = sym (xor_zero_r r)
fold_splits (b ∷ bs) r h (k, ks) =
    let z : 0 < 65536 = lit< tt in
    fold_splits bs (crc_step r b) (step_below r b h k) ks ∙
    ap (λ x. bit_xor x (fold crc_step 0 bs))
    (ap (shifted_by (length bs)) (step_splits r b h k) ∙ shifted_by_xor (length bs) (shifted r) (crc_step 0 b) (shifted_below r h) (step_below 0 b z k)) ∙
    xor_assoc (shifted_by (length bs) (shifted r)) (shifted_by (length bs) (crc_step 0 b)) (fold crc_step 0 bs) ∙
    ap (bit_xor (shifted_by (length bs) (shifted r))) (sym (fold_splits bs (crc_step 0 b) (step_below 0 b z k) ks))

is-remainder : (b : ℕ) → fold crc_step 0 (bits 8 b) ≡ remainder b
unfolding remainder
is-remainder b = refl

byte_up : (b : ℕ) → b < 256 → shifted_by 8 (b * 256) ≡ remainder b
unfolding remainder bits crc_step
byte_up b h = same_below (λ b. shifted_by 8 (b * 256)) (λ b. fold crc_step 0 (bits 8 b)) 256 refl b h

low_up : (b : ℕ) → b < 256 → shifted_by 8 b ≡ b * 256
low_up b h = same_below (shifted_by 8) (λ b. b * 256) 256 refl b h

-- a byte into any register, by the table
pub byte_in : (r b : ℕ) → r < 65536 → b < 256 → crc_from r (b ∷ []) ≡ bit_xor (r % 256 * 256) (remainder (bit_xor (r / 256) b))
byte_in r b h k =
    let hi : r / 256 < 256 = omega arith in
    let lo : r % 256 < 256 = omega arith in
    let n : r / 256 * 256 < 65536 = omega arith in
    let m : r % 256 < 65536 = omega arith in
    let kk : b * 256 < 65536 = omega arith in
    let e : bit_xor (r / 256 * 256) (r % 256) ≡ r = xor_shifted (r / 256) 8 (r % 256) lo ∙ omega arith in
    let x : bit_xor (r / 256) b < 256 = xor_lt 8 (r / 256) b hi k in
    let t : bit_xor (remainder (r / 256)) (remainder b) ≡ remainder (bit_xor (r / 256) b) =
    ap (λ v. bit_xor v (remainder b)) (sym (byte_up (r / 256) hi)) ∙ ap (bit_xor (shifted_by 8 (r / 256 * 256))) (sym (byte_up b k)) ∙
    sym (shifted_by_xor 8 (r / 256 * 256) (b * 256) n kk) ∙ ap (shifted_by 8) (sym (up (r / 256) b)) ∙ byte_up (bit_xor (r / 256) b) x in
    ap (fold crc_step r) (append-nil (bits 8 b)) ∙
    fold_splits (bits 8 b) r h (bits-binary 8 b) ∙
    ap (λ n. bit_xor (shifted_by n r) (fold crc_step 0 (bits 8 b))) (length-bits 8 b) ∙
    ap (λ v. bit_xor v (fold crc_step 0 (bits 8 b))) (ap (shifted_by 8) (sym e) ∙ shifted_by_xor 8 (r / 256 * 256) (r % 256) n m) ∙
    ap (λ v. bit_xor (bit_xor v (shifted_by 8 (r % 256))) (fold crc_step 0 (bits 8 b))) (byte_up (r / 256) hi) ∙
    ap (λ v. bit_xor (bit_xor (remainder (r / 256)) v) (fold crc_step 0 (bits 8 b))) (low_up (r % 256) lo) ∙
    ap (λ v. bit_xor (bit_xor (remainder (r / 256)) (r % 256 * 256)) v) (is-remainder b) ∙
    ap (λ v. bit_xor v (remainder b)) (xor_comm (remainder (r / 256)) (r % 256 * 256)) ∙
    xor_assoc (r % 256 * 256) (remainder (r / 256)) (remainder b) ∙
    ap (bit_xor (r % 256 * 256)) t

-- one byte after the other
pub crc_from-more : (r b : ℕ) (bs : List ℕ) → crc_from r (b ∷ bs) ≡ crc_from (crc_from r (b ∷ [])) bs
crc_from-more r b bs = fold-append crc_step r (bits 8 b) (bits_of bs) ∙ ap (λ (xs : List ℕ). fold crc_step (fold crc_step r xs) (bits_of bs)) (sym (append-nil (bits 8 b)))

-- the same by a table of the remainders
pub by_table : (xs : List ℕ) (r b : ℕ) → r < 65536 → b < 256 → Table 256 remainder xs →
    bit_xor (bit_and r 255 * 256 % 65536) (get_or xs (bit_xor (r / 256) b) 0) ≡ crc_from r (b ∷ [])
by_table xs r b h k t =
    let m : bit_and r 255 * 256 % 65536 ≡ r % 256 * 256 = omega (arith, and_mask r 8) in
    let i : bit_xor (r / 256) b < 256 = xor_lt 8 (r / 256) b (omega arith) k in
    rw (m, entry-is t (bit_xor (r / 256) b) i) (sym (byte_in r b h k))

pub crc_from-append : (xs ys : List ℕ) (r : ℕ) → crc_from r (xs ++ ys) ≡ crc_from (crc_from r xs) ys
crc_from-append [] ys r = refl
crc_from-append (x ∷ xs) ys r =
    crc_from-more r x (xs ++ ys) ∙ crc_from-append xs ys (crc_from r (x ∷ [])) ∙ ap (λ v. crc_from v ys) (sym (crc_from-more r x xs))

-- the register stays one of 16 bits
pub fold-below : (bs : List ℕ) (r : ℕ) → r < 65536 → AllByRecursion (λ b. b < 2) bs → fold crc_step r bs < 65536
fold-below [] r h k = h
fold-below (b ∷ bs) r h (k, ks) = fold-below bs (crc_step r b) (step_below r b h k) ks

bits_of-binary : (bytes : List ℕ) → AllByRecursion (λ b. b < 2) (bits_of bytes)
bits_of-binary [] = tt
bits_of-binary (b ∷ bytes) = All-append (λ b. b < 2) (bits 8 b) (bits_of bytes) (bits-binary 8 b) (bits_of-binary bytes)

pub crc-below : (bytes : List ℕ) → crc bytes < 65536
crc-below bytes = fold-below (bits_of bytes) 0xFFFF (lit< tt) (bits_of-binary bytes)
