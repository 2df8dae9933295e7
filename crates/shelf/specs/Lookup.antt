-- Looking up a block's row.
use Rattle.std.specs.Prelude.{◌≡◌, ℕ, List, Some, None, Option, MatchOption}
use Rattle.std.specs.List.{HoldsAt}
use Rattle.tape.specs.Stretches.{Answers}
use Rattle.shelf.specs.Shelf.{ShelfRow}

-- a row as a stretch of numbers: those of its blocks. The number of the mark that closes it is not among them
abbrev pub row_first : ShelfRow → ℕ
row_first r = r.first

abbrev pub row_extent : ShelfRow → ℕ
row_extent r = r.count

-- the row that the search for the number n names, and none exactly where it names none
abbrev pub LooksUp : List ShelfRow → ℕ → Option ShelfRow → Type 0
LooksUp rows n r = MatchOption r (Answers row_first row_extent rows n None) (λ x. (i : ℕ) × Answers row_first row_extent rows n (Some i) × HoldsAt (λ s. s ≡ x) rows i)
