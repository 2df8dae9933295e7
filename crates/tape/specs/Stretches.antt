-- Which of some stretches of numbers holds a number.
use Rattle.std.specs.Prelude.{ℕ, ◌+◌, ◌<◌, ◌≤◌, List, length, Option, MatchOption}
use Rattle.std.specs.List.{HoldsAt}

-- n is one of the numbers from `from` on, of which there are `count`
abbrev pub Holds : ℕ → ℕ → ℕ → Type 0
Holds from count n = (from ≤ n) × (n < from + count)

module _ {S : Type 0} (from count : S → ℕ) where
  -- the stretch at i is the first that holds n, and none before it begins beyond n
  pub record Sought (xs : List S) (n i : ℕ) : Type 0 where
    pub inside : i < length xs
    pub holds : HoldsAt (λ s. Holds (from s) (count s) n) xs i
    pub before : (k : ℕ) → k < i → HoldsAt (λ s. (Holds (from s) (count s) n → ⊥) × (from s ≤ n)) xs k

  -- an answer names the stretch sought, and is none exactly where there is no such stretch
  abbrev pub Answers : List S → ℕ → Option ℕ → Type 0
  Answers xs n r = MatchOption r ((i : ℕ) → Sought xs n i → ⊥) (λ i. Sought xs n i)
