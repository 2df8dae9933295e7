-- What the functions on the bytes of an interval store do.
use Rattle.std.specs.Prelude.{◌≡◌, ℕ, ◌+◌, ◌<◌, ◌≤◌, cond, List, ◌++◌, length, take, ◌==◌, slice_index}
use Rattle.std.specs.List.{flat_map}
use Rattle.interval.specs.Intervals.{gap, interval_cells}
use Rattle.interval.specs.declared.interval.track.Fill.{Fill}

-- a track that was filled as far as f, with cells added: it is filled as far as g then
pub record Spelled (f : Fill) (old cells new : List ℕ) (g : Fill) : Type 0 where
  pub are : interval_cells new g ≡ interval_cells old f ++ cells
  pub kept : take f.used new ≡ take f.used old
  pub more : f.used ≤ g.used
  pub few : g.used + g.zeros ≤ f.used + f.zeros + length cells

-- cells of a track from `place` on, with a one put at the place p of the track
abbrev pub WithOne : ℕ → ℕ → List ℕ → List ℕ → Type 0
WithOne place p old new = (k : ℕ) → k < length old → slice_index new k ≡ cond (place + k == p) 1 (slice_index old k)

-- as many cells as were asked for, from `place` on: those of some bytes, and zeros after them
abbrev pub Copied : ℕ → List ℕ → List ℕ → List ℕ → Type 0
Copied place bytes old new = (k : ℕ) → k < length old → slice_index new k ≡ slice_index (flat_map gap bytes) (place + k)
