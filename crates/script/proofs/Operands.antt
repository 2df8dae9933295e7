-- Numbers as bytes and bytes as numbers, the high byte first.
use Rattle.std.proofs.Common.{◌≡◌, ℕ, zero, suc, ◌+◌, ◌*◌, ◌/◌, ◌%◌, ◌^◌, ◌<◌, List, [], ◌∷◌, ◌++◌, length, get_or, take, replicate, sym, refl, ap, ◌∙◌, pow-suc, add-one, arith}
use Rattle.std.specs.Int.Digits.{number_from_digits}
use Rattle.std.proofs.lemmas.List.{length_push, take_more, take_all, length-take-le}
use Rattle.std.proofs.ByRecursion.{All-take, All-get_or, All-from_get_or}
use Rattle.std.proofs.lemmas.Int.Digits.{number_push}
use Rattle.script.specs.Instructions.{Bytes, big_endian}

abbrev pub Byte : ℕ → Type 0
Byte b = b < 256

pub bytes-from-each : (bs : List ℕ) → ((k : ℕ) → get_or bs k 0 < 256) → Bytes bs
bytes-from-each bs h = All-from_get_or Byte bs 0 (λ k _. h k)

pub zeros_bytes : (n : ℕ) → Bytes (replicate n 0)
zeros_bytes zero = tt
zeros_bytes (suc n) = (omega arith, zeros_bytes n)

pub length-big_endian : (width n : ℕ) → length (big_endian width n) ≡ width
unfolding big_endian
length-big_endian zero n = refl
length-big_endian (suc width) n =
    length_push (big_endian width (n / 256)) (n % 256) ∙ ap (λ k. k + 1) (length-big_endian width (n / 256)) ∙ add-one width

pub number-big_endian : (width n : ℕ) → n < 256 ^ width → number_from_digits 256 (big_endian width n) ≡ n
unfolding big_endian
number-big_endian zero n h = omega arith
number-big_endian (suc width) n h =
    let p = pow-suc 256 width in
    number_push 256 (big_endian width (n / 256)) (n % 256) ∙
    ap (λ k. k * 256 + n % 256) (number-big_endian width (n / 256) (omega arith)) ∙ omega arith

pub big_endian-number : (width : ℕ) (bs : List ℕ) → length bs ≡ width → Bytes bs → big_endian width (number_from_digits 256 bs) ≡ bs
unfolding big_endian
big_endian-number zero [] e h = refl
big_endian-number zero (b ∷ bs) e h = absurd (omega arith)
big_endian-number (suc width) bs e h =
    let front = number_from_digits 256 (take width bs) in
    let last = get_or bs width 0 in
    let s : take width bs ++ last ∷ [] ≡ bs = sym (take_more bs width 0 (omega arith)) ∙ take_all (width + 1) bs (omega arith) in
    let n : number_from_digits 256 bs ≡ front * 256 + last = ap (number_from_digits 256) (sym s) ∙ number_push 256 (take width bs) last in
    let b : last < 256 = All-get_or Byte bs width 0 (omega arith) h in
    let i : big_endian width front ≡ take width bs =
    big_endian-number width (take width bs) (length-take-le width bs (omega arith)) (All-take Byte width bs h) in
    let q : number_from_digits 256 bs / 256 ≡ front = omega arith in
    let m : number_from_digits 256 bs % 256 ≡ last = omega arith in
    rw (q, m, i) s
