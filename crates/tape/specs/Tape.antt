-- A tape by its cells, and what a medium does with the runs of cells that are sent to it.
use Rattle.std.specs.Prelude.{◌≡◌, ℕ, ◌<◌, List, [], ◌∷◌, ◌++◌, map, length, replicate, ◌≢◌, slice_index_or}
-- a cell, and the cell that a byte stands for
pub use Rattle.qic24.specs.Cells.{Cell, cell}
use Rattle.std.specs.List.{range_with_len}

-- a cartridge has at most so many tracks, and at most so many cells on each
abbrev pub most_tracks : ℕ
most_tracks = 9

abbrev pub most_cells : ℕ
most_cells = 100000000

-- the cells of each track, from its start; a cell is 0 or 1
abbrev pub Tape : Type 0
Tape = List (List ℕ)

-- the cells of one track; none where there is no such track
abbrev pub track : Tape → ℕ → List ℕ
track c t = slice_index_or c t []

-- a tape with n tracks and no cells
abbrev pub blank : ℕ → Tape
blank n = replicate n []

-- the tape with n tracks whose track t has the cells f t
abbrev pub tape_by : ℕ → (ℕ → List ℕ) → Tape
tape_by n f = map f (range_with_len 0 n)

-- cells that were sent to a track together
pub record Run : Type 0 where
  pub on : ℕ
  pub sent : List ℕ

-- the run of the cells x to the track t
abbrev pub run : ℕ → List ℕ → Run
run t x = record { on = t; sent = x }

-- the tape after one run: its track has as many cells more, whatever they are, and the rest is as it was
pub record Longer (r : Run) (before after : Tape) : Type 0 where
  pub there : r.on < length before
  pub added : List ℕ
  pub count : length added ≡ length r.sent
  pub is : track after r.on ≡ track before r.on ++ added
  pub others : (t : ℕ) → (t ≢ r.on) → track after t ≡ track before t
  pub tracks : length after ≡ length before

-- from the medium s these runs in order lead to the medium e
abbrev pub Sends : {S : Type 0} → (S → Run → S → Type 0) → S → List Run → S → Type 0
Sends takes s [] e = e ≡ s
Sends {S} takes s (r ∷ rs) e = (m : S) × takes s r m × Sends takes m rs e

-- the same of the cells alone
abbrev pub Grown : Tape → List Run → Tape → Type 0
Grown c rs e = Sends (λ b r a. Longer r b a) c rs e
