-- The lengths and limits of recording, each under one name.
use Rattle.std.specs.Prelude.{ℕ, ◌+◌, ◌*◌}
use Rattle.qic24.specs.Copy.{preamble_ones}
use Rattle.qic24.specs.declared.layout.Preamble.{Preamble}
use Rattle.qic24.specs.declared.layout.Preamble.TheVariants.{Normal}
use Rattle.replay.specs.Copies.{body_cells}

-- the marker: five ones and 00111
abbrev pub marker_cells : ℕ
marker_cells = 10

abbrev pub postamble_cells : ℕ
postamble_cells = 5

-- from the first data cell of a copy to its end
abbrev pub copy_tail : ℕ
copy_tail = body_cells + postamble_cells

-- from the start of a copy to its first data cell
abbrev pub copy_head : Preamble → ℕ
copy_head p = preamble_ones p + marker_cells

-- a copy with a normal preamble
abbrev pub normal_copy : ℕ
normal_copy = copy_head Normal + copy_tail

-- the ones that close a recording on a track
abbrev pub closing_ones : ℕ
closing_ones = 3495

-- how often an item is written at most
abbrev pub most_writings : ℕ
most_writings = 16

-- after the first one
abbrev pub more_writings : ℕ
more_writings = 15

-- the cells that must be left on a track for one more item
abbrev pub item_room : ℕ
item_room = 280000

-- the cells that finishing a pending item may take
abbrev pub finish_room : ℕ
finish_room = more_writings * normal_copy + closing_ones

-- the first number that no address holds
abbrev pub number_limit : ℕ
number_limit = 1048576
