-- Eight bytes in a word, and what the arithmetic on words does to each of them.
use Rattle.std.proofs.Common.{◌≡◌, ℕ, zero, suc, ◌+◌, ◌*◌, ◌/◌, ◌%◌, ◌<◌, eqb, List, [], ◌∷◌, map, length, get_or, sym, refl, ap, ◌∙◌, zero-add, arith, lit<}
use lib.Bits.{bit_and, bit_or, and_block, or_block, or_lt, and_le_r}
use lib.Pow.{shl-shr}
use Rattle.std.proofs.lemmas.List.{map-id, same_lists, get_or_default}
use Rattle.std.proofs.lemmas.Bool.{cond_both}
use Rattle.std.proofs.lemmas.List.FromFn.{get_or-map-range_with_len}
use Rattle.std.specs.List.{range_with_len, AllByRecursion}
use Rattle.tape.specs.Tape.{cell}
use Rattle.packed.specs.Packed.{bit}
use Rattle.packed.proofs.Computed.{same_below, same_below_both}

abbrev pub Byte : ℕ → Type 0
Byte b = b < 256

-- the first byte is the lowest
abbrev pub word : List ℕ → ℕ
word [] = 0
word (b ∷ bs) = word bs * 256 + b

-- one byte n times
abbrev pub repeated : ℕ → ℕ → ℕ
repeated zero m = 0
repeated (suc n) m = repeated n m * 256 + m

module _ (f : ℕ → ℕ) (small : (b : ℕ) → b < 256 → f b < 256) where
  and_words : (bs : List ℕ) (m : ℕ) → m < 256 → AllByRecursion Byte bs → bit_and (word (map f bs)) (repeated (length bs) m) ≡ word (map (λ b. bit_and (f b) m) bs)
  and_words [] m h k = refl
  and_words (b ∷ bs) m h (k, ks) = and_block 8 (word (map f bs)) (repeated (length bs) m) (f b) m (small b k) h ∙ ap (λ (w : ℕ). w * 256 + bit_and (f b) m) (and_words bs m h ks)

  add_words : (bs : List ℕ) (m : ℕ) → word (map f bs) + repeated (length bs) m ≡ word (map (λ b. f b + m) bs)
  add_words [] m = refl
  add_words (b ∷ bs) m = omega (arith, add_words bs m)

  or_words : (bs : List ℕ) → AllByRecursion Byte bs → bit_or (word (map f bs)) (word bs) ≡ word (map (λ b. bit_or (f b) b) bs)
  or_words [] k = refl
  or_words (b ∷ bs) (k, ks) = or_block 8 (word (map f bs)) (word bs) (f b) b (small b k) k ∙ ap (λ (w : ℕ). w * 256 + bit_or (f b) b) (or_words bs ks)

-- the high bit of a byte is set where the byte is not 0
abbrev low : ℕ → ℕ
low b = bit_and b 127

abbrev carried : ℕ → ℕ
carried b = low b + 127

abbrev joined : ℕ → ℕ
joined b = bit_or (carried b) b

abbrev high : ℕ → ℕ
high b = bit_and (joined b) 128

high_is : (b : ℕ) → b < 256 → high b ≡ cell b * 128
high_is = same_below high (λ b. cell b * 128) 256 refl

low_small : (b : ℕ) → b < 256 → low b < 256
low_small b h = omega (arith, and_le_r b 127)

carried_small : (b : ℕ) → b < 256 → carried b < 256
carried_small b h = omega (arith, and_le_r b 127)

joined_small : (b : ℕ) → b < 256 → joined b < 256
joined_small b h = or_lt 8 (carried b) b (carried_small b h) h

high_words : (bs : List ℕ) → AllByRecursion Byte bs → word (map high bs) ≡ word (map cell bs) * 128
high_words [] k = refl
high_words (b ∷ bs) (k, ks) = omega (arith, high_is b k, high_words bs ks)

-- the arithmetic on the word of some bytes, up to the shift
pub ones_of : (bs : List ℕ) → AllByRecursion Byte bs
    → bit_and (bit_or (bit_and (word bs) (repeated (length bs) 127) + repeated (length bs) 127) (word bs)) (repeated (length bs) 128) / 128 ≡ word (map cell bs)
ones_of bs k =
    let n = length bs in
    let a : bit_and (word bs) (repeated n 127) ≡ word (map low bs) = ap (λ (xs : List ℕ). bit_and (word xs) (repeated n 127)) (sym (map-id bs)) ∙ and_words (λ b. b) (λ b h. h) bs 127 (lit< tt) k in
    let b : word (map low bs) + repeated n 127 ≡ word (map carried bs) = add_words low low_small bs 127 in
    let c : bit_or (word (map carried bs)) (word bs) ≡ word (map joined bs) = or_words carried carried_small bs k in
    let d : bit_and (word (map joined bs)) (repeated n 128) ≡ word (map high bs) = and_words joined joined_small bs 128 (lit< tt) k in
    ap (λ (w : ℕ). bit_and (bit_or (w + repeated n 127) (word bs)) (repeated n 128) / 128) a
    ∙ (ap (λ (w : ℕ). bit_and (bit_or w (word bs)) (repeated n 128) / 128) b
    ∙ (ap (λ (w : ℕ). bit_and w (repeated n 128) / 128) c
    ∙ (ap (λ (w : ℕ). w / 128) (d ∙ high_words bs k) ∙ shl-shr (word (map cell bs)) 7)))

-- eight ones and zeros in a word, gathered into a byte
gathers : (n : ℕ) → n < 256 → word (map (bit n) (range_with_len 0 8)) * 0x8040_2010_0804_0201 % 18446744073709551616 / 72057594037927936 ≡ n
unfolding bit
gathers = same_below (λ n. word (map (bit n) (range_with_len 0 8)) * 0x8040_2010_0804_0201 % 18446744073709551616 / 72057594037927936) (λ n. n) 256 refl

module _ (c0 c1 c2 c3 c4 c5 c6 c7 : ℕ) (h0 : c0 < 2) (h1 : c1 < 2) (h2 : c2 < 2) (h3 : c3 < 2) (h4 : c4 < 2) (h5 : c5 < 2) (h6 : c6 < 2) (h7 : c7 < 2) where
  abbrev sum : ℕ
  sum = c0 * 128 + c1 * 64 + c2 * 32 + c3 * 16 + c4 * 8 + c5 * 4 + c6 * 2 + c7

  abbrev eight : List ℕ
  eight = c0 ∷ c1 ∷ c2 ∷ c3 ∷ c4 ∷ c5 ∷ c6 ∷ c7 ∷ []

  sum-bits : (i : ℕ) → i < 8 → bit sum i ≡ get_or eight i 0
  unfolding bit
  sum-bits zero h = omega arith
  sum-bits (suc zero) h = omega arith
  sum-bits (suc (suc zero)) h = omega arith
  sum-bits (suc (suc (suc zero))) h = omega arith
  sum-bits (suc (suc (suc (suc zero)))) h = omega arith
  sum-bits (suc (suc (suc (suc (suc zero))))) h = omega arith
  sum-bits (suc (suc (suc (suc (suc (suc zero)))))) h = omega arith
  sum-bits (suc (suc (suc (suc (suc (suc (suc zero))))))) h = omega arith
  sum-bits (suc (suc (suc (suc (suc (suc (suc (suc i)))))))) h = absurd (omega arith)

  gathered : word eight * 0x8040_2010_0804_0201 % 18446744073709551616 / 72057594037927936 ≡ sum
  gathered =
      let same : eight ≡ map (bit sum) (range_with_len 0 8) =
      same_lists eight (map (bit sum) (range_with_len 0 8)) refl (λ k d h. get_or_default eight k d 0 h ∙ (sym (sum-bits k h) ∙ sym (get_or-map-range_with_len (bit sum) 0 8 k k d h (zero-add k)))) in
      ap (λ (cs : List ℕ). word cs * 0x8040_2010_0804_0201 % 18446744073709551616 / 72057594037927936) same ∙ gathers sum (omega arith)

  pub gathered_bits : (i : ℕ) → i < 8 → bit (word eight * 0x8040_2010_0804_0201 % 18446744073709551616 / 72057594037927936) i ≡ get_or eight i 0
  gathered_bits i h = ap (λ (n : ℕ). bit n i) gathered ∙ sum-bits i h

cell-small : (b : ℕ) → cell b < 2
cell-small b = cond_both (eqb b 0) 0 1 (λ x. x < 2) (λ e. omega arith) (λ e. omega arith)

-- eight bytes as a byte, bit by bit
pub packed_eight : (g : ℕ → ℕ) → ((i : ℕ) → g i < 256) → (w : ℕ)
    → w ≡ g 0 + g 1 * 256 + g 2 * 65536 + g 3 * 16777216 + g 4 * 4294967296 + g 5 * 1099511627776 + g 6 * 281474976710656 + g 7 * 72057594037927936
    → (i : ℕ) → i < 8 → bit (bit_and (bit_or (bit_and w 0x7F7F_7F7F_7F7F_7F7F + 0x7F7F_7F7F_7F7F_7F7F) w) 0x8080_8080_8080_8080 / 128 * 0x8040_2010_0804_0201 % 18446744073709551616 / 72057594037927936) i ≡ cell (g i)
packed_eight g small w is i h =
    let bs = g 0 ∷ g 1 ∷ g 2 ∷ g 3 ∷ g 4 ∷ g 5 ∷ g 6 ∷ g 7 ∷ [] in
    let e : w ≡ word bs = is ∙ omega arith in
    let k = ones_of bs (small 0, (small 1, (small 2, (small 3, (small 4, (small 5, (small 6, (small 7, tt)))))))) in
    ap (λ (v : ℕ). bit (bit_and (bit_or (bit_and v 0x7F7F_7F7F_7F7F_7F7F + 0x7F7F_7F7F_7F7F_7F7F) v) 0x8080_8080_8080_8080 / 128 * 0x8040_2010_0804_0201 % 18446744073709551616 / 72057594037927936) i) e
    ∙ (ap (λ (v : ℕ). bit (v * 0x8040_2010_0804_0201 % 18446744073709551616 / 72057594037927936) i) k
    ∙ (gathered_bits (cell (g 0)) (cell (g 1)) (cell (g 2)) (cell (g 3)) (cell (g 4)) (cell (g 5)) (cell (g 6)) (cell (g 7)) (cell-small (g 0)) (cell-small (g 1)) (cell-small (g 2)) (cell-small (g 3)) (cell-small (g 4)) (cell-small (g 5)) (cell-small (g 6)) (cell-small (g 7)) i h
    ∙ at i h))
  where
    at : (i : ℕ) → i < 8 → get_or (cell (g 0) ∷ cell (g 1) ∷ cell (g 2) ∷ cell (g 3) ∷ cell (g 4) ∷ cell (g 5) ∷ cell (g 6) ∷ cell (g 7) ∷ []) i 0 ≡ cell (g i)
    at zero h = refl
    at (suc zero) h = refl
    at (suc (suc zero)) h = refl
    at (suc (suc (suc zero))) h = refl
    at (suc (suc (suc (suc zero)))) h = refl
    at (suc (suc (suc (suc (suc zero))))) h = refl
    at (suc (suc (suc (suc (suc (suc zero)))))) h = refl
    at (suc (suc (suc (suc (suc (suc (suc zero))))))) h = refl
    at (suc (suc (suc (suc (suc (suc (suc (suc i)))))))) h = absurd (omega arith)

-- the bytes of a word, the lowest first
abbrev pub bytes_of : ℕ → List ℕ
bytes_of w = (w % 256) ∷ (w / 256 % 256) ∷ (w / 65536 % 256) ∷ (w / 16777216 % 256) ∷ (w / 4294967296 % 256) ∷ (w / 1099511627776 % 256) ∷ (w / 281474976710656 % 256) ∷ (w / 72057594037927936 % 256) ∷ []

spread : ℕ → ℕ
spread b = bit_and ((bit_and (b * 0x0101_0101_0101_0101) 0x0102_0408_1020_4080 + 0x7F7F_7F7F_7F7F_7F7F) / 128) 0x0101_0101_0101_0101

spread_bit : (b i : ℕ) → b < 256 → i < 8 → get_or (bytes_of (spread b)) i 0 ≡ bit b i
unfolding bit spread
spread_bit = same_below_both (λ b i. get_or (bytes_of (spread b)) i 0) (λ b i. bit b i) 256 8 refl

-- a byte as eight cells
pub unpacked_eight : (w b : ℕ) → w ≡ b → b < 256 → bytes_of (bit_and ((bit_and (w * 0x0101_0101_0101_0101) 0x0102_0408_1020_4080 + 0x7F7F_7F7F_7F7F_7F7F) / 128) 0x0101_0101_0101_0101) ≡ map (bit b) (range_with_len 0 8)
unfolding spread
unpacked_eight w b e h =
    ap (λ (v : ℕ). bytes_of (spread v)) e
    ∙ same_lists (bytes_of (spread b)) (map (bit b) (range_with_len 0 8)) refl
    (λ k d l. get_or_default (bytes_of (spread b)) k d 0 l ∙ (spread_bit b k h l ∙ sym (get_or-map-range_with_len (bit b) 0 8 k k d l (zero-add k))))
