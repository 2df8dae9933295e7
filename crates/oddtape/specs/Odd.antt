-- Every third one is dropped.
use Rattle.std.specs.Prelude.{ℕ, ◌+◌, cond, List, [], ◌∷◌, ◌==◌}

-- what a cell comes out as, when n ones have passed since the last that was dropped
abbrev pub kept : ℕ → ℕ → ℕ
kept n x = cond (x == 0) 0 (cond (n == 2) 0 1)

-- and how many have passed then
abbrev pub next : ℕ → ℕ → ℕ
next n x = cond (x == 0) n (cond (n == 2) 0 (n + 1))

-- the same of several cells
abbrev pub thinned : ℕ → List ℕ → List ℕ
thinned n [] = []
thinned n (x ∷ xs) = kept n x ∷ thinned (next n x) xs

-- and the count after them
abbrev pub after : ℕ → List ℕ → ℕ
after n [] = n
after n (x ∷ xs) = after (next n x) xs
