-- How an item is written again until it comes out good.
use Rattle.std.specs.Prelude.{ℕ, zero, suc, Bool, cond, List, [], ◌∷◌}
use Rattle.qic24.specs.Copy.{Numbered}
use Rattle.replay.specs.Copies.{CopyAt, placed}
use Rattle.replay.specs.declared.place.TapePlace.{TapePlace}
use Rattle.deck.specs.Measures.{most_writings}

-- the least k below the limit at which the test passes, or the limit
abbrev pub first_passing : ℕ → (ℕ → Bool) → ℕ
first_passing zero test = 0
first_passing (suc n) test = cond (test 0) 0 (suc (first_passing n (λ k. test (suc k))))

-- k copies of N, at the places from the j-th on
abbrev pub rewritten : (ℕ → TapePlace) → Numbered → ℕ → ℕ → List CopyAt
rewritten at N j zero = []
rewritten at N j (suc k) = placed (at j) N ∷ rewritten at N (suc j) k

-- N and then M, k times
abbrev pub rewritten_with : (ℕ → TapePlace) → (ℕ → TapePlace) → Numbered → Numbered → ℕ → ℕ → List CopyAt
rewritten_with at to N M j zero = []
rewritten_with at to N M j (suc k) = placed (at j) N ∷ (placed (to j) M ∷ rewritten_with at to N M (suc j) k)

-- whether a writing of the pending item came out good: N, the copy that stands, is writing 0, and the later ones are at the places given
abbrev pub writing_good : (CopyAt → Bool) → CopyAt → (ℕ → TapePlace) → ℕ → Bool
writing_good good N at zero = good N
writing_good good N at (suc j) = good (placed (at (suc j)) N.item)

-- how many of sixteen writings failed before the first good one; shut, since it would compute to sixteen nested tests
unfoldable pub failed_writings : (CopyAt → Bool) → CopyAt → (ℕ → TapePlace) → ℕ
failed_writings good N at = first_passing most_writings (writing_good good N at)
