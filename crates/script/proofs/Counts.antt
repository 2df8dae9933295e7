-- What an inspection counts, command by command.
use Rattle.std.proofs.Common.{◌≡◌, ℕ, suc, ◌+◌, ◌<◌, List, length, get_or, drop, Option, sym, ap, ◌∙◌, subst, ap₂, add-zero, zero-add, arith}
use Rattle.std.proofs.lemmas.List.{length-append, drop-drop}
use Rattle.std.proofs.ByRecursion.{All-drop}
use Rattle.script.specs.declared.refusal.Refusal.{Refusal}
use Rattle.script.specs.declared.inspection.Inspection.{Inspection}
use Rattle.script.specs.Instructions.{Instruction, Bytes, written, script_of}
use Rattle.script.specs.Reading.{next, read}
use Rattle.script.specs.Readouts.{Readout, ended, after, read_out, reached, inspected, Ends}
use Rattle.script.proofs.Operands.{Byte, bytes-from-each}
use Rattle.script.proofs.Whole.{read_out-next, read_out-ended}

-- what is seen in the end, where so many commands and bytes were taken and this run is left
abbrev pub counted : ℕ → ℕ → Readout → Inspection
counted commands place r = record { commands = commands + length r.handed; place = place + reached r; refusal = r.refusal }

pub counted_none : (r : Readout) → counted 0 0 r ≡ inspected r
counted_none r = ap₂ (λ m n. record { commands = m; place = n; refusal = r.refusal }) (zero-add (length r.handed)) (zero-add (reached r))

pub counted-after : (commands place : ℕ) (i : Instruction) (r : Readout) → counted commands place (after i r) ≡ counted (commands + 1) (place + length (written i)) r
counted-after commands place i r =
    let e : commands + suc (length r.handed) ≡ commands + 1 + length r.handed = omega arith in
    let f : place + reached (after i r) ≡ place + length (written i) + reached r = omega (arith, length-append (written i) (script_of r.handed)) in
    rw (e, f)

-- one command further on
pub counted_next : (s same : List ℕ) (commands place onward : ℕ) (i : Instruction) (seen : Inspection)
    → ((k : ℕ) → get_or s k 0 < 256) → same ≡ s → next i ≡ read (drop place same) → onward ≡ place + length (written i)
    → counted commands place (read_out (drop place s)) ≡ seen → counted (commands + 1) onward (read_out (drop onward s)) ≡ seen
counted_next s same commands place onward i seen each e command on so_far =
    let bytes : Bytes (drop place s) = All-drop Byte place s (bytes-from-each s each) in
    let here : read (drop place s) ≡ next i = sym (command ∙ ap (λ l. read (drop place l)) e) in
    let left : drop (length (written i)) (drop place s) ≡ drop onward s = drop-drop (length (written i)) place s ∙ ap (λ n. drop n s) (sym on) in
    let more : read_out (drop place s) ≡ after i (read_out (drop onward s)) = read_out-next (drop place s) i bytes here ∙ ap (λ l. after i (read_out l)) left in
    ap (λ n. counted (commands + 1) n (read_out (drop onward s))) on ∙ sym (counted-after commands place i (read_out (drop onward s))) ∙ sym (ap (counted commands place) more) ∙ so_far

-- no command further on
pub counted-ended : (s same : List ℕ) (commands place onward : ℕ) (f : Option Refusal) (seen : Inspection)
    → same ≡ s → Ends (drop place same) f → onward ≡ place + 0
    → counted commands place (read_out (drop place s)) ≡ seen → record { commands = commands; place = onward; refusal = f } ≡ seen
counted-ended s same commands place onward f seen e ends on so_far =
    let here : read_out (drop place s) ≡ ended f = read_out-ended (drop place s) f (subst (λ l. Ends (drop place l) f) e ends) in
    ap₂ (λ m n. record { commands = m; place = n; refusal = f }) (sym (add-zero commands)) on ∙ sym (ap (counted commands place) here) ∙ so_far
