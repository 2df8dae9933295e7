-- The measure of a copy that replay and deck go by.
use Rattle.std.specs.Prelude.{ℕ}

-- data, address and CRC
abbrev pub body_cells : ℕ
body_cells = 5180
