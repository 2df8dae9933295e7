-- Runs that flaws meet, and runs that none meets.
use Rattle.std.proofs.Common.{◌≡◌, ℕ, ◌+◌, ◌<◌, ◌≤◌, true, false, List, get_or, min, max, sym, subst, ◌∙◌, inl, inr}
use Rattle.std.specs.List.{list_any}
use Rattle.std.proofs.lemmas.Bool.{cases_lt, lt-ltb, ltb-true, true≢false}
use Rattle.std.proofs.lemmas.List.{get_or_default}
use Rattle.std.proofs.lemmas.List.Folds.{Any-from_list_any, list_any_at}
use Rattle.tape.specs.Flaws.{cell_number, flaw_first, flaw_end, no_flaw, meets, Clean, Whole}
use Rattle.tape.specs.declared.flaw.Flaw.{Flaw}
use Rattle.tape.specs.Covering.{touched_not_clean, untouched_clean}

module _ (fs : List Flaw) (t p n : ℕ) where
  pub met_not_clean : Whole fs → p + n ≤ 100000000 → list_any (meets t p n) fs ≡ true → Clean fs t p n → ⊥
  met_not_clean whole h e =
      let a = Any-from_list_any (meets t p n) fs e in
      let met = ltb-true (max (cell_number t p) (flaw_first a.1)) (min (cell_number t p + n) (flaw_end a.1)) a.4 in
      touched_not_clean fs whole t p n a.0 h a.2 (subst (λ f. max (cell_number t p) (flaw_first f) < min (cell_number t p + n) (flaw_end f)) (sym (get_or_default fs a.0 no_flaw a.1 a.2 ∙ a.3)) met)

  pub unmet_clean : list_any (meets t p n) fs ≡ false → Clean fs t p n
  unmet_clean e = untouched_clean fs t p n (λ k l.
      elim (cases_lt (max (cell_number t p) (flaw_first (get_or fs k no_flaw))) (min (cell_number t p + n) (flaw_end (get_or fs k no_flaw)))) [
        | inl h ↦ absurd (true≢false (sym (list_any_at (meets t p n) fs k no_flaw l (lt-ltb _ _ h)) ∙ e))
        | inr h ↦ h
      ])
