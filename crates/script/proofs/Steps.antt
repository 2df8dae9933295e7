-- One step of a reader: from a place of the script to the place after the answer.
use Rattle.std.proofs.Common.{◌≡◌, ℕ, ◌+◌, ◌-◌, ◌<◌, ◌≤◌, List, ◌++◌, length, get_or, take, drop, sym, ap, ◌∙◌, subst, ap₂, arith}
use Rattle.std.proofs.lemmas.List.{take_rest, drop-drop, length-drop}
use Rattle.script.specs.Instructions.{Bytes}
use Rattle.script.specs.Reading.{Answer, read, taken}
use Rattle.script.specs.Fronts.{StandsAt, OnlyAnswer}
use Rattle.script.proofs.Operands.{bytes-from-each}
use Rattle.script.proofs.Exact.{stands, only-answer, takes, takes_within}

-- what is left of a script at a place, as `&script[place..]` gives it
abbrev pub part_from : List ℕ → ℕ → List ℕ
part_from script place = take (length script - place) (drop place script)

-- what is known once the front of what is left has been read
pub record Step (script : List ℕ) (place : ℕ) (a : Answer) : Type 0 where
  pub command : a ≡ read (drop place script)
  pub bytes : Bytes (drop place script)
  pub part : (after : ℕ) (same : List ℕ) → after ≡ place + length (taken a) → same ≡ script → drop place script ≡ taken a ++ drop after same
  pub exact : OnlyAnswer (drop place script) a
  pub within : place ≤ length script → place + length (taken a) ≤ length script

pub step : (script : List ℕ) (place : ℕ) (a : Answer) → a ≡ read (part_from script place) → ((k : ℕ) → get_or (part_from script place) k 0 < 256) → Step script place a
step script place a told each =
    let rest = take_rest script place in
    let command : a ≡ read (drop place script) = told ∙ ap read rest in
    let bytes : Bytes (drop place script) = subst Bytes rest (bytes-from-each (part_from script place) each) in
    let here : StandsAt (drop place script) a = subst (StandsAt (drop place script)) (sym command) (stands (drop place script) bytes) in
    record {
      command = command;
      bytes = bytes;
      part = λ after same e f. takes (drop place script) a here ∙ ap (λ l. taken a ++ l) (drop-drop (length (taken a)) place script ∙ ap₂ drop (sym e) (sym f));
      exact = only-answer (drop place script) a bytes command;
      within = λ h. let n = takes_within (drop place script) a here in omega (arith, length-drop place script);
    }
