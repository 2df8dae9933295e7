-- The data field of a copy: the cells of a block or of a mark.
use Rattle.std.specs.Prelude.{ℕ, List, map, replicate}
use Rattle.qic24.specs.Cells.{concat, byte_cells, mark_cells}
use Rattle.qic24.specs.declared.item.Content.{Content}
use Rattle.qic24.specs.declared.item.Content.TheVariants.{Block, Mark}

-- bytes, each as its ten cells
abbrev pub coded : List ℕ → List ℕ
coded bs = concat (map byte_cells bs)

-- 512 times the mark byte. Like the other lists that are long at a numeral, it is shut
unfoldable pub mark_data : List ℕ
mark_data = concat (replicate 512 mark_cells)

-- the data field
abbrev pub data_cells : Content → List ℕ
data_cells (Block bs) = coded bs
data_cells Mark = mark_data
