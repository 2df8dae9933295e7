-- What the functions on the bytes of a packed store do.
use Rattle.std.specs.Prelude.{◌≡◌, ℕ, ◌+◌, ◌<◌, ◌≤◌, List, length, slice_index}
use Rattle.tape.specs.Tape.{cell}
use Rattle.packed.specs.Packed.{bit, packed_bytes, packed_cell}

-- a byte with cells put into it from the bit j on
pub record Merged (old j : ℕ) (cells : List ℕ) (new : ℕ) : Type 0 where
  pub before : (i : ℕ) → i < j → bit new i ≡ bit old i
  pub these : (i : ℕ) → i < length cells → bit new (j + i) ≡ cell (slice_index cells i)

-- memory with cells put into a track, whose bytes stand from `base` on, at the places from p on
pub record Put (base p : ℕ) (cells old new : List ℕ) : Type 0 where
  pub before : (q : ℕ) → q < p → packed_cell new base q ≡ packed_cell old base q
  pub these : (i : ℕ) → i < length cells → packed_cell new base (p + i) ≡ cell (slice_index cells i)
  pub below : (k : ℕ) → k < base → slice_index new k ≡ slice_index old k
  pub above : (k : ℕ) → base + packed_bytes (p + length cells) ≤ k → slice_index new k ≡ slice_index old k
