-- A run over a whole script joins to the script, and no other run does.
use Rattle.std.proofs.Common.{◌≡◌, ℕ, zero, suc, ◌<◌, ◌≤◌, List, [], ◌∷◌, ◌++◌, length, take, drop, Some, None, Option, sym, refl, ap, ◌∙◌, subst, arith}
use Rattle.std.specs.List.{AllByRecursion}
use Rattle.std.proofs.lemmas.List.{append_assoc, append-nil, length-append, take_at, drop_at, take-append-drop, nil_from_length}
use Rattle.std.proofs.ByRecursion.{All-drop}
use Rattle.script.specs.declared.refusal.Refusal.{Refusal}
use Rattle.script.specs.Instructions.{Instruction, write, mark, begin, stop, replay, flaw, survey, Bytes, Proper, written, script_of}
use Rattle.script.specs.Reading.{Answer, next, end, refused, read}
use Rattle.script.specs.Fronts.{Begins, StandsAt}
use Rattle.script.specs.Readouts.{Readout, ended, after, read_turns, read_out, reached, Ends, Joins, WrittenThenRead, ReadThenWritten}
use Rattle.script.proofs.Operands.{Byte}
use Rattle.script.proofs.Exact.{stands, only}

-- the script is the run's instructions and a tail that ends it
pub record Splits (s : List ℕ) (r : Readout) : Type 0 where
  pub proper : AllByRecursion Proper r.handed
  pub tail : List ℕ
  pub is : s ≡ script_of r.handed ++ tail
  pub ends : Ends tail r.refusal

splits_from_joins : (s : List ℕ) (r : Readout) → Joins s r → Splits s r
splits_from_joins s r h = record {
  proper = h.proper;
  tail = drop (reached r) s;
  is = sym (take-append-drop (reached r) s) ∙ ap (λ l. l ++ drop (reached r) s) (sym h.joined);
  ends = h.ends;
}

joins_from_splits : (s : List ℕ) (r : Readout) → Splits s r → Joins s r
joins_from_splits s r h =
    let front = script_of r.handed in
    let rest : drop (reached r) s ≡ h.tail = ap (drop (reached r)) h.is ∙ drop_at front h.tail (reached r) refl in
    record {
      proper = h.proper;
      joined = sym (ap (take (reached r)) h.is ∙ take_at front h.tail (reached r) refl);
      ends = subst (λ l. Ends l r.refusal) (sym rest) h.ends;
    }

pub not_empty : (i : Instruction) → 0 < length (written i)
not_empty (write block) = omega arith
not_empty mark = omega arith
not_empty begin = omega arith
not_empty stop = omega arith
not_empty replay = omega arith
not_empty (flaw track place cells) = omega arith
not_empty survey = omega arith

-- the bytes after an instruction that stands at the front
rest-is : (s : List ℕ) (i : Instruction) (h : Begins s i) → drop (length (written i)) s ≡ h.rest
rest-is s i h = ap (drop (length (written i))) h.is ∙ drop_at (written i) h.rest (length (written i)) refl

rest_shorter : (s : List ℕ) (i : Instruction) (h : Begins s i) → length h.rest < length s
rest_shorter s i h = let n = not_empty i in omega (arith, ap length h.is, length-append (written i) h.rest)

splits_after : (s : List ℕ) (i : Instruction) (h : Begins s i) (r : Readout) → Splits h.rest r → Splits s (after i r)
splits_after s i h r k = record {
  proper = (h.proper, k.proper);
  tail = k.tail;
  is = h.is ∙ ap (λ l. written i ++ l) k.is ∙ sym (append_assoc (written i) (script_of r.handed) k.tail);
  ends = k.ends;
}

-- how a run goes on at an answer
abbrev going : ℕ → List ℕ → Answer → Readout
going n s a = elim a [ next i ↦ after i (read_turns n (drop (length (written i)) s)) | end ↦ ended None | refused e ↦ ended (Some e) ]

splits_in : (n : ℕ) (s : List ℕ) → length s ≤ n → Bytes s → Splits s (read_turns n s)
unfolding read_turns
splits_in zero s h b = record { proper = tt; tail = s; is = refl; ends = nil_from_length s (omega arith) }
splits_in (suc n) s h b = go (read s) (stands s b) (λ rest. splits_in n rest)
  where
    go : (a : Answer) → StandsAt s a → ((rest : List ℕ) → length rest ≤ n → Bytes rest → Splits rest (read_turns n rest)) → Splits s (going n s a)
    go (next i) k on =
        let rest = rest-is s i k in
        let shorter = rest_shorter s i k in
        let bytes : Bytes k.rest = subst Bytes rest (All-drop Byte (length (written i)) s b) in
        subst (λ l. Splits s (after i (read_turns n l))) (sym rest) (splits_after s i k (read_turns n k.rest) (on k.rest (omega arith) bytes))
    go end k on = record { proper = tt; tail = s; is = refl; ends = k }
    go (refused e) k on = record { proper = tt; tail = s; is = refl; ends = k }

-- an answer other than an instruction ends a run
ended_by : (n : ℕ) (s : List ℕ) (f : Option Refusal) → length s ≤ n → Ends s f → ended f ≡ read_turns n s
unfolding read_turns
ended_by zero s None h k = refl
ended_by (suc n) s None h k = ap (going n s) (only s end k)
ended_by zero s (Some e) h k =
    let nothing : s ≡ [] = nil_from_length s (omega arith) in
    let clash : refused e ≡ end = only s (refused e) k ∙ ap read nothing in
    let z : ◌≡◌ {A = ℕ} 0 1 = cc in
    absurd (omega arith)
ended_by (suc n) s (Some e) h k = ap (going n s) (only s (refused e) k)

-- where a run begins with an instruction, so does the script
begins : (s : List ℕ) (i : Instruction) (is : List Instruction) (f : Option Refusal) → Splits s (record { handed = i ∷ is; refusal = f }) → Begins s i
begins s i is f k = record {
  proper = k.proper.0;
  rest = script_of is ++ k.tail;
  is = k.is ∙ append_assoc (written i) (script_of is) k.tail;
}

only_in : (n : ℕ) (s : List ℕ) (is : List Instruction) (f : Option Refusal) → length s ≤ n → Splits s (record { handed = is; refusal = f }) → record { handed = is; refusal = f } ≡ read_turns n s
unfolding read_turns begins
only_in n s [] f h k = ended_by n s f h (subst (λ l. Ends l f) (sym k.is) k.ends)
only_in zero s (i ∷ is) f h k = let shorter = rest_shorter s i (begins s i is f k) in absurd (omega arith)
only_in (suc n) s (i ∷ is) f h k =
    let b = begins s i is f k in
    let shorter = rest_shorter s i b in
    let more : Splits b.rest (record { handed = is; refusal = f }) = record { proper = k.proper.1; tail = k.tail; is = refl; ends = k.ends } in
    let on : record { handed = is; refusal = f } ≡ read_turns n b.rest = only_in n b.rest is f (omega arith) more in
    ap (after i) (on ∙ ap (read_turns n) (sym (rest-is s i b))) ∙ ap (going n s) (only s (next i) b)

pub only_readout : (s : List ℕ) (r : Readout) → Splits s r → r ≡ read_out s
unfolding read_out
only_readout s r h = only_in (length s) s r.handed r.refusal (omega arith) h

pub splits : (s : List ℕ) → Bytes s → Splits s (read_out s)
unfolding read_out
splits s b = splits_in (length s) s (omega arith) b

pub read_out-next : (s : List ℕ) (i : Instruction) → Bytes s → read s ≡ next i → read_out s ≡ after i (read_out (drop (length (written i)) s))
read_out-next s i b e =
    let h : Begins s i = subst (StandsAt s) e (stands s b) in
    let rest = rest-is s i h in
    let bytes : Bytes h.rest = subst Bytes rest (All-drop Byte (length (written i)) s b) in
    sym (only_readout s (after i (read_out h.rest)) (splits_after s i h (read_out h.rest) (splits h.rest bytes))) ∙ ap (λ l. after i (read_out l)) (sym rest)

pub read_out-ended : (s : List ℕ) (f : Option Refusal) → Ends s f → read_out s ≡ ended f
read_out-ended s f h = sym (only_readout s (ended f) (record { proper = tt; tail = s; is = refl; ends = h }))

pub written_then_read : WrittenThenRead
written_then_read is p =
    sym (only_readout (script_of is) (record { handed = is; refusal = None }) (record { proper = p; tail = []; is = sym (append-nil (script_of is)); ends = refl }))

pub read_then_written : ReadThenWritten
read_then_written s b = (joins_from_splits s (read_out s) (splits s b), λ r h. only_readout s r (splits_from_joins s r h))
