-- `read` answers what stands at the front of some bytes, and nothing else.
use Rattle.std.proofs.Common.{◌≡◌, ℕ, zero, suc, ◌+◌, ◌-◌, ◌^◌, ◌<◌, ◌≤◌, leb, List, [], ◌∷◌, ◌++◌, length, get_or, take, drop, replicate, sym, refl, ap, ◌∙◌, subst, ap₂, arith, lit≤, take-add}
use Rattle.std.specs.Int.Digits.{number_from_digits}
use Rattle.std.proofs.lemmas.List.{length-append, length-drop, length-replicate, length-take-le, take_at, take-append-drop, take_all, drop_at}
use Rattle.std.proofs.ByRecursion.{All-append, All-get_or, All-take, All-drop}
use Rattle.std.proofs.lemmas.Bool.{cond-true, cond-false, cond_both, le-leb, lt-leb, leb-true, leb-false, ne_eqb}
use Rattle.std.proofs.lemmas.Int.Digits.{number_lt}
use Rattle.script.specs.declared.refusal.Refusal.TheVariants.{UnknownCommand, CutShort}
use Rattle.script.specs.Instructions.{Instruction, write, mark, begin, stop, replay, flaw, survey, Bytes, Proper, big_endian, written}
use Rattle.script.specs.Reading.{Answer, next, end, refused, at_byte, read, taken}
use Rattle.script.specs.Fronts.{Inside, Unknown, StandsAt, OnlyAnswer}
use Rattle.script.proofs.Operands.{Byte, zeros_bytes, length-big_endian, number-big_endian, big_endian-number}

-- the flaw whose operands are the first seven of some bytes
abbrev flaw_of : List ℕ → Instruction
flaw_of ops = flaw (get_or ops 0 0) (number_from_digits 256 (take 4 (drop 1 ops))) (number_from_digits 256 (take 2 (drop 5 ops)))

flaw-written : (ops : List ℕ) → 7 ≤ length ops → Bytes ops → written (flaw_of ops) ≡ 6 ∷ take 7 ops
flaw-written [] h b = absurd (omega arith)
flaw-written (x ∷ xs) h (b, bs) =
    let long : length (take 4 xs) ≡ 4 = length-take-le 4 xs (omega arith) in
    let short : length (take 2 (drop 4 xs)) ≡ 2 = length-take-le 2 (drop 4 xs) (omega (arith, length-drop 4 xs)) in
    ap (λ l. 6 ∷ x ∷ l)
    (ap₂ (λ p l. p ++ l) (big_endian-number 4 (take 4 xs) long (All-take Byte 4 xs bs))
    (big_endian-number 2 (take 2 (drop 4 xs)) short (All-take Byte 2 (drop 4 xs) (All-drop Byte 4 xs bs))) ∙
    sym (take-add 4 2 xs))

pub read-written : (i : Instruction) (rest : List ℕ) → Proper i → read (written i ++ rest) ≡ next i
unfolding big_endian
read-written (write block) rest (long, b) =
    let h : 512 ≤ length (block ++ rest) = omega (arith, length-append block rest) in
    cond-true _ _ _ (le-leb 512 (length (block ++ rest)) h) ∙ ap (λ l. next (write l)) (take_at block rest 512 long)
read-written mark rest p = refl
read-written begin rest p = refl
read-written stop rest p = refl
read-written replay rest p = refl
read-written (flaw track place cells) rest (t, p, l) =
    let operands = track ∷ (big_endian 4 place ++ big_endian 2 cells) ++ rest in
    cond-true _ _ _ (le-leb 7 (length operands) (omega arith)) ∙
    ap₂ (λ m n. next (flaw track m n)) (number-big_endian 4 place p) (number-big_endian 2 cells l)
read-written survey rest p = refl

-- every command byte stands from 1 to 7
first_byte : (i : Instruction) → (1 ≤ get_or (written i) 0 0) × (get_or (written i) 0 0 ≤ 7)
first_byte (write block) = (lit≤ tt, lit≤ tt)
first_byte mark = (lit≤ tt, lit≤ tt)
first_byte begin = (lit≤ tt, lit≤ tt)
first_byte stop = (lit≤ tt, lit≤ tt)
first_byte replay = (lit≤ tt, lit≤ tt)
first_byte (flaw track place cells) = (lit≤ tt, lit≤ tt)
first_byte survey = (lit≤ tt, lit≤ tt)

unknown : (b : ℕ) (rest : List ℕ) → (1 ≤ b → b ≤ 7 → ⊥) → Unknown (b ∷ rest)
unknown b rest out = record {
  first = b;
  rest = rest;
  is = refl;
  none = λ i operands p e.
      let f = first_byte i in
      let at : get_or (written i) 0 0 ≡ b = ap (λ l. get_or l 0 0) e in
      out (omega arith) (omega arith);
}

past_seven : (b : ℕ) (rest : List ℕ) → 7 < b → at_byte b rest ≡ refused UnknownCommand
past_seven b rest h =
    simp (ne_eqb b 1 (λ e. omega arith), ne_eqb b 2 (λ e. omega arith), ne_eqb b 3 (λ e. omega arith), ne_eqb b 4 (λ e. omega arith), ne_eqb b 5 (λ e. omega arith), ne_eqb b 6 (λ e. omega arith), ne_eqb b 7 (λ e. omega arith))

flaw-proper : (ops : List ℕ) → 7 ≤ length ops → Bytes ops → Proper (flaw_of ops)
flaw-proper ops h b =
    let places = take 4 (drop 1 ops) in
    let lengths = take 2 (drop 5 ops) in
    let four : length places ≡ 4 = length-take-le 4 (drop 1 ops) (omega (arith, length-drop 1 ops)) in
    let two : length lengths ≡ 2 = length-take-le 2 (drop 5 ops) (omega (arith, length-drop 5 ops)) in (
      All-get_or Byte ops 0 0 (omega arith) b,
      subst (λ n. number_from_digits 256 places < 256 ^ n) four (number_lt 256 places (All-take Byte 4 (drop 1 ops) (All-drop Byte 1 ops b))),
      subst (λ n. number_from_digits 256 lengths < 256 ^ n) two (number_lt 256 lengths (All-take Byte 2 (drop 5 ops) (All-drop Byte 5 ops b))),
    )

-- operands that are cut short, made up to n bytes
module _ (n : ℕ) (rest : List ℕ) (cut : length rest < n) (b : Bytes rest) where
  missing : List ℕ
  missing = replicate (n - length rest) 0

  length-missing : length missing ≡ n - length rest
  unfolding missing
  length-missing = length-replicate (n - length rest) 0

  length_whole : length (rest ++ missing) ≡ n
  length_whole = length-append rest missing ∙ omega (arith, length-missing)

  bytes_whole : Bytes (rest ++ missing)
  unfolding missing
  bytes_whole = All-append Byte rest missing b (zeros_bytes (n - length rest))

at-write : (rest : List ℕ) → Bytes rest → StandsAt (1 ∷ rest) (at_byte 1 rest)
at-write rest b =
    cond_both (leb 512 (length rest)) (next (write (take 512 rest))) (refused CutShort) (StandsAt (1 ∷ rest))
    (λ e. record {
      proper = (length-take-le 512 rest (leb-true 512 (length rest) e), All-take Byte 512 rest b);
      rest = drop 512 rest;
      is = ap (λ l. 1 ∷ l) (sym (take-append-drop 512 rest));
    })
    (λ e.
    let cut = leb-false 512 (length rest) e in
    record {
      some = omega arith;
      instruction = write (rest ++ missing 512 rest cut b);
      proper = (length_whole 512 rest cut b, bytes_whole 512 rest cut b);
      missing = missing 512 rest cut b;
      more = omega (arith, length-missing 512 rest cut b);
      is = refl;
    })

at-flaw : (rest : List ℕ) → Bytes rest → StandsAt (6 ∷ rest) (at_byte 6 rest)
at-flaw rest b =
    cond_both (leb 7 (length rest)) (next (flaw_of rest)) (refused CutShort) (StandsAt (6 ∷ rest))
    (λ e.
    let long = leb-true 7 (length rest) e in
    record {
      proper = flaw-proper rest long b;
      rest = drop 7 rest;
      is = ap (λ l. 6 ∷ l) (sym (take-append-drop 7 rest)) ∙ ap (λ l. l ++ drop 7 rest) (sym (flaw-written rest long b));
    })
    (λ e.
    let cut = leb-false 7 (length rest) e in
    let ops = rest ++ missing 7 rest cut b in
    let seven : length ops ≡ 7 = length_whole 7 rest cut b in
    let whole = bytes_whole 7 rest cut b in
    record {
      some = omega arith;
      instruction = flaw_of ops;
      proper = flaw-proper ops (omega arith) whole;
      missing = missing 7 rest cut b;
      more = omega (arith, length-missing 7 rest cut b);
      is = sym (flaw-written ops (omega arith) whole ∙ ap (λ l. 6 ∷ l) (take_all 7 ops (omega arith)));
    })

at_any : (b : ℕ) (rest : List ℕ) → Bytes rest → StandsAt (b ∷ rest) (at_byte b rest)
at_any zero rest h = unknown 0 rest (λ p q. omega arith)
at_any (suc zero) rest h = at-write rest h
at_any (suc (suc zero)) rest h = record { proper = tt; rest = rest; is = refl }
at_any (suc (suc (suc zero))) rest h = record { proper = tt; rest = rest; is = refl }
at_any (suc (suc (suc (suc zero)))) rest h = record { proper = tt; rest = rest; is = refl }
at_any (suc (suc (suc (suc (suc zero))))) rest h = record { proper = tt; rest = rest; is = refl }
at_any (suc (suc (suc (suc (suc (suc zero)))))) rest h = at-flaw rest h
at_any (suc (suc (suc (suc (suc (suc (suc zero))))))) rest h = record { proper = tt; rest = rest; is = refl }
at_any (suc (suc (suc (suc (suc (suc (suc (suc b)))))))) rest h =
    let n = suc (suc (suc (suc (suc (suc (suc (suc b))))))) in
    subst (StandsAt (n ∷ rest)) (sym (past_seven n rest (omega arith))) (unknown n rest (λ p q. omega arith))

pub stands : (s : List ℕ) → Bytes s → StandsAt s (read s)
stands [] h = refl
stands (b ∷ rest) (h, hs) = at_any b rest hs

-- bytes that end inside an instruction are too few for its operands
too_few : (b : ℕ) (rest missing : List ℕ) (i : Instruction) → Proper i → 0 < length missing → (b ∷ rest) ++ missing ≡ written i → at_byte b rest ≡ refused CutShort
too_few b rest missing (write block) (long, _) more is =
    let first : b ≡ 1 = ap (λ l. get_or l 0 0) is in
    let count : length (rest ++ missing) ≡ length block = ap (λ l. length (drop 1 l)) is in
    ap (λ n. at_byte n rest) first ∙ cond-false _ _ _ (lt-leb 512 (length rest) (omega (arith, length-append rest missing)))
too_few b rest missing mark p more is = absurd (omega (arith, ap length is, length-append rest missing))
too_few b rest missing begin p more is = absurd (omega (arith, ap length is, length-append rest missing))
too_few b rest missing stop p more is = absurd (omega (arith, ap length is, length-append rest missing))
too_few b rest missing replay p more is = absurd (omega (arith, ap length is, length-append rest missing))
too_few b rest missing (flaw track place cells) p more is =
    let first : b ≡ 6 = ap (λ l. get_or l 0 0) is in
    let seven : length (rest ++ missing) ≡ 7 =
    ap (λ l. length (drop 1 l)) is ∙ ap suc (length-append (big_endian 4 place) (big_endian 2 cells) ∙ ap₂ (λ m n. m + n) (length-big_endian 4 place) (length-big_endian 2 cells)) in
    ap (λ n. at_byte n rest) first ∙ cond-false _ _ _ (lt-leb 7 (length rest) (omega (arith, length-append rest missing)))
too_few b rest missing survey p more is = absurd (omega (arith, ap length is, length-append rest missing))

only-inside : (s : List ℕ) → Inside s → read s ≡ refused CutShort
only-inside [] h = absurd (omega (arith, h.some))
only-inside (b ∷ rest) h = too_few b rest h.missing h.instruction h.proper h.more h.is

-- a byte from 1 to 7 begins an instruction
no_instruction : (b : ℕ) (rest : List ℕ) → ((i : Instruction) (operands : List ℕ) → Proper i → written i ≡ b ∷ operands → ⊥) → at_byte b rest ≡ refused UnknownCommand
no_instruction zero rest none = refl
no_instruction (suc zero) rest none =
    absurd (none (write (replicate 512 0)) (replicate 512 0) (length-replicate {A = ℕ} 512 0, zeros_bytes 512) refl)
no_instruction (suc (suc zero)) rest none = absurd (none mark [] tt refl)
no_instruction (suc (suc (suc zero))) rest none = absurd (none begin [] tt refl)
no_instruction (suc (suc (suc (suc zero)))) rest none = absurd (none stop [] tt refl)
no_instruction (suc (suc (suc (suc (suc zero))))) rest none = absurd (none replay [] tt refl)
no_instruction (suc (suc (suc (suc (suc (suc zero)))))) rest none =
    absurd (none (flaw 0 0 0) (0 ∷ (big_endian 4 0 ++ big_endian 2 0)) (omega arith, omega arith, omega arith) refl)
no_instruction (suc (suc (suc (suc (suc (suc (suc zero))))))) rest none = absurd (none survey [] tt refl)
no_instruction (suc (suc (suc (suc (suc (suc (suc (suc b)))))))) rest none =
    past_seven (suc (suc (suc (suc (suc (suc (suc (suc b)))))))) rest (omega arith)

pub only : (s : List ℕ) (a : Answer) → StandsAt s a → a ≡ read s
only s (next i) h = sym (ap read h.is ∙ read-written i h.rest h.proper)
only s end h = sym (ap read h)
only s (refused UnknownCommand) h = sym (ap read h.is ∙ no_instruction h.first h.rest h.none)
only s (refused CutShort) h = sym (only-inside s h)

pub only-answer : (s : List ℕ) (a : Answer) → Bytes s → a ≡ read s → OnlyAnswer s a
only-answer s a b e = record { stands = subst (StandsAt s) (sym e) (stands s b); only = λ other h. only s other h ∙ sym e }

-- an answer takes the bytes that it stands at
pub takes : (s : List ℕ) (a : Answer) → StandsAt s a → s ≡ taken a ++ drop (length (taken a)) s
takes s (next i) h =
    let rest : drop (length (written i)) s ≡ h.rest = ap (drop (length (written i))) h.is ∙ drop_at (written i) h.rest (length (written i)) refl in
    h.is ∙ ap (λ l. written i ++ l) (sym rest)
takes s end h = refl
takes s (refused e) h = refl

pub takes_within : (s : List ℕ) (a : Answer) → StandsAt s a → length (taken a) ≤ length s
takes_within s a h =
    let e = ap length (takes s a h) ∙ length-append (taken a) (drop (length (taken a)) s) in
    omega arith
