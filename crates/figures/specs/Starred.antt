-- The proved bench figures, number for number, and that the format's definitions give them.
use Rattle.std.specs.Prelude.{◌≡◌, [], ◌∷◌, ◌++◌, None}
use Rattle.qic24.specs.Cells.{nibble_cells, byte_cells}
use Rattle.qic24.specs.Copy.{address}
use Rattle.qic24.specs.Opening.{FirstOpening}
use Rattle.figures.specs.declared.Starred.{Starred}

-- the table
abbrev pub the_figures : Starred
the_figures = record {
  zero = 1 ∷ 1 ∷ 0 ∷ 0 ∷ 1 ∷ 1 ∷ 1 ∷ 0 ∷ 0 ∷ 1 ∷ [];
  ones = 0 ∷ 1 ∷ 1 ∷ 1 ∷ 1 ∷ 0 ∷ 1 ∷ 1 ∷ 1 ∷ 1 ∷ [];
  mixed = 1 ∷ 0 ∷ 0 ∷ 1 ∷ 1 ∷ 1 ∷ 1 ∷ 1 ∷ 1 ∷ 0 ∷ [];
  address = 0x02 ∷ 0x01 ∷ 0x11 ∷ 0x70 ∷ [];
  opening = None;
}

-- the cells of 00, FF and 3C, the address of number 70,000 on track 2, and the nibbles F, C and E, which hold eight ones and 00111 and no opening
abbrev pub FiguresOfTheFormat : Type 0
FiguresOfTheFormat =
    (byte_cells 0x00 ≡ the_figures.zero) × (byte_cells 0xFF ≡ the_figures.ones) × (byte_cells 0x3C ≡ the_figures.mixed) × (address 2 70000 ≡ the_figures.address) ×
    (nibble_cells 0xF ++ (nibble_cells 0xC ++ nibble_cells 0xE) ≡ 0 ∷ 1 ∷ 1 ∷ 1 ∷ 1 ∷ 1 ∷ 1 ∷ 1 ∷ 1 ∷ 0 ∷ 0 ∷ 1 ∷ 1 ∷ 1 ∷ 0 ∷ []) ×
    FirstOpening (nibble_cells 0xF ++ (nibble_cells 0xC ++ nibble_cells 0xE)) 0 the_figures.opening
