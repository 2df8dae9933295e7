-- The shelf list: the files of a replay, each by its first number, its count of blocks, and whether a mark closes it.
use Rattle.std.specs.Prelude.{ℕ, suc, Bool, true, false, cond, ◌&&◌, ◌||◌, List, [], ◌∷◌, ◌==◌}
use Rattle.qic24.specs.Copy.{Numbered}
use Rattle.qic24.specs.declared.item.Content.{Content}
use Rattle.qic24.specs.declared.item.Content.TheVariants.{Block, Mark}
-- one file
pub use Rattle.shelf.specs.declared.row.ShelfRow.{ShelfRow}

-- the row of a file that begins at f, with n blocks
abbrev pub row_of : ℕ → ℕ → Bool → ShelfRow
row_of f n b = record { first = f; count = n; closed = b }

-- a mark, and no block
abbrev pub is_mark : Content → Bool
is_mark (Block bs) = false
is_mark Mark = true

-- the rows of a list, with n blocks of the file under way, which began at f
abbrev pub rows_from : ℕ → ℕ → List Numbered → List ShelfRow
rows_from f n [] = cond (n == 0) [] (row_of f n false ∷ [])
rows_from f n (i ∷ is) =
    cond (is_mark i.content) (row_of (cond (n == 0) i.number f) n true ∷ rows_from 0 0 is)
    (rows_from (cond (n == 0) i.number f) (suc n) is)

-- the rows of a list, in order
abbrev pub shelf_list : List Numbered → List ShelfRow
shelf_list is = rows_from 0 0 is

-- a mark stands in the list under this number
abbrev pub mark_under : ℕ → List Numbered → Bool
mark_under n [] = false
mark_under n (i ∷ is) = (i.number == n && is_mark i.content) || mark_under n is
