-- Cells, and the group code that bytes are recorded in. A cell is 1, a flux transition, or 0; the leftmost is recorded first.
use Rattle.std.specs.Prelude.{ℕ, zero, suc, ◌+◌, ◌*◌, ◌/◌, ◌%◌, ◌<◌, cond, List, [], ◌∷◌, ◌++◌, ◌==◌, slice_index}
pub use Rattle.std.specs.Prelude.{fold}
pub use Rattle.std.specs.List.{concat}

-- the last n bits of a number as cells, the high bit first
unfoldable pub bits : ℕ → ℕ → List ℕ
bits zero v = []
bits (suc n) v = bits n (v / 2) ++ (v % 2 ∷ [])

-- one cell more at the low end of a number
abbrev pub shift_in : ℕ → ℕ → ℕ
shift_in v c = v * 2 + c

-- cells as a number, the first one highest
abbrev pub number_of : List ℕ → ℕ
number_of cs = fold shift_in 0 cs

-- a cell
abbrev pub Cell : ℕ → Type 0
Cell c = c < 2

-- a byte that stands for a cell: any byte but 0 is a one
abbrev pub cell : ℕ → ℕ
cell b = cond (b == 0) 0 1

-- the five cells of each nibble, from 0 to 15
unfoldable pub nibble_codes : List ℕ
nibble_codes =
    0b11001 ∷ 0b11011 ∷ 0b10010 ∷ 0b10011 ∷ 0b11101 ∷ 0b10101 ∷ 0b10110 ∷ 0b10111 ∷
    0b11010 ∷ 0b01001 ∷ 0b01010 ∷ 0b01011 ∷ 0b11110 ∷ 0b01101 ∷ 0b01110 ∷ 0b01111 ∷ []

-- a nibble's five cells
unfoldable pub nibble_cells : ℕ → List ℕ
nibble_cells n = bits 5 (slice_index nibble_codes n)

-- a byte is its high nibble, then its low nibble
unfoldable pub byte_cells : ℕ → List ℕ
byte_cells b = nibble_cells (b / 16) ++ nibble_cells (b % 16)

-- the mark byte, which stands for no byte
unfoldable pub mark_cells : List ℕ
mark_cells = bits 10 0b0010100101
