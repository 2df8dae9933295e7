-- What a lent buffer holds after a part of it is written.
use Rattle.std.specs.Prelude.{ℕ, ◌+◌, List, ◌++◌, length, take, drop}

-- the buffer with these cells from a place on
abbrev pub overlaid : List ℕ → ℕ → List ℕ → List ℕ
overlaid out at xs = take at out ++ (xs ++ drop (at + length xs) out)
