-- The steps of the search for a stretch.
use Rattle.std.proofs.Common.{ℕ, ◌<◌, ◌≤◌, List, [], ◌∷◌, length, get_or, subst, inl, inr, arith}
use Rattle.std.specs.List.{HoldsAt}
use Rattle.std.proofs.lemmas.Bool.{cases_order}
use Rattle.tape.specs.Stretches.{Holds, Sought}

module _ {S : Type 0} (from count : S → ℕ) (xs : List S) (n : ℕ) where
  -- the stretches before i begin at n or before, and do not hold it
  abbrev pub Passed : ℕ → Type 0
  Passed i = (k : ℕ) → k < i → HoldsAt (λ s. (Holds (from s) (count s) n → ⊥) × (from s ≤ n)) xs k

  -- a stretch that begins beyond n stops the search
  pub stopped : (i : ℕ) (s : S) → Passed i → HoldsAt (λ z. n < from z) xs i → (j : ℕ) → Sought from count xs n j → ⊥
  stopped i s p b j f =
      elim (cases_order j i) [
        | inl e ↦ omega (arith, subst (λ k. from (get_or xs k s) ≤ n) e (f.holds s).0, b s)
        | inr (inl h) ↦ (p j h s).0 (f.holds s)
        | inr (inr h) ↦ omega (arith, b s, (f.before i h s).1)
      ]

-- nor is there one where all are passed
pub passed-all : {S : Type 0} (from count : S → ℕ) (xs : List S) (n i : ℕ) → length xs ≤ i → Passed from count xs n i → (j : ℕ) → Sought from count xs n j → ⊥
passed-all from count [] n i h p j f = omega (arith, f.inside)
passed-all from count (s ∷ xs) n i h p j f = (p j (omega (arith, f.inside)) s).0 (f.holds s)
