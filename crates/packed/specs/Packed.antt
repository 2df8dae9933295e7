-- The bytes of a packed store, and the cells that they stand for.
use Rattle.std.specs.Prelude.{ℕ, ◌+◌, ◌-◌, ◌*◌, ◌/◌, ◌%◌, ◌^◌, List, map, slice_index}
use Rattle.std.specs.List.{range_with_len}
use Rattle.tape.specs.Tape.{Tape, tape_by}

-- the bytes of a track: eight cells a byte, rounded up
abbrev pub packed_bytes : ℕ → ℕ
packed_bytes c = (c + 7) / 8

-- the bit j of a byte, where 0 is the high bit
unfoldable pub bit : ℕ → ℕ → ℕ
bit b j = b / 2 ^ (7 - j) % 2

-- the cell at a place of a track whose bytes stand from `base` on
unfoldable pub packed_cell : List ℕ → ℕ → ℕ → ℕ
packed_cell bytes base p = bit (slice_index bytes (base + p / 8)) (p % 8)

-- its first n cells
unfoldable pub packed_cells : List ℕ → ℕ → ℕ → List ℕ
packed_cells bytes base n = map (packed_cell bytes base) (range_with_len 0 n)

-- n tracks of c cells each, one after the other in memory, and how many cells of each are in use
unfoldable pub packed_tape : List ℕ → ℕ → ℕ → List ℕ → Tape
packed_tape bytes n c used = tape_by n (λ t. packed_cells bytes (t * packed_bytes c) (slice_index used t))
