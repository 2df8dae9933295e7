-- What a constant table holds, by one test over the whole of it.
use Rattle.std.specs.Prelude.{◌≡◌, ℕ, suc, Bool, true, ◌&&◌, List, [], ◌∷◌, length, nat_eq}

-- the test passes at each entry and its place, counted from i
abbrev pub every : (ℕ → ℕ → Bool) → ℕ → List ℕ → Bool
every f i [] = true
every f i (x ∷ xs) = f i x && every f (suc i) xs

-- a table of n entries that holds at each place what the rule says
pub record Table (n : ℕ) (rule : ℕ → ℕ) (xs : List ℕ) : Type 0 where
  pub size : length xs ≡ n
  pub right : every (λ k x. nat_eq x (rule k)) 0 xs ≡ true
