-- The bytes of an interval store, and the cells that they stand for.
use Rattle.std.specs.Prelude.{◌≡◌, ℕ, ◌+◌, ◌*◌, ◌≤◌, cond, List, [], ◌∷◌, ◌++◌, length, take, drop, replicate, ◌==◌, slice_index_or}
use Rattle.std.specs.List.{flat_map}
use Rattle.tape.specs.Tape.{Tape, tape_by}
use Rattle.interval.specs.declared.interval.track.Fill.{Fill}
use Rattle.interval.specs.declared.interval.track.TrackState.{TrackState}
use Rattle.interval.specs.Shorts.{none_short}

-- the cells of one byte: that many zeros and then a one, but 255 is 255 zeros alone
unfoldable pub gap : ℕ → List ℕ
gap b = replicate b 0 ++ cond (b == 255) [] (1 ∷ [])

-- the cells of the first n bytes, and of the zeros counted beside
unfoldable pub cells_by : List ℕ → ℕ → ℕ → List ℕ
cells_by bytes n zeros = flat_map gap (take n bytes) ++ replicate zeros 0

-- the cells of the bytes in use, and of the zeros counted beside
abbrev pub interval_cells : List ℕ → Fill → List ℕ
interval_cells bytes f = cells_by bytes f.used f.zeros

-- a track without cells
abbrev pub no_fill : Fill
no_fill = record { used = 0; zeros = 0; short = none_short }

abbrev pub no_track : TrackState
no_track = record { cells = 0; fill = no_fill }

-- where the track t stands
abbrev pub state_of : List TrackState → ℕ → TrackState
state_of states t = slice_index_or states t no_track

-- n tracks with room for c bytes each, one after the other in memory
unfoldable pub interval_tape : List ℕ → ℕ → ℕ → List TrackState → Tape
interval_tape memory n c states = tape_by n (λ t. interval_cells (drop (t * c) memory) (state_of states t).fill)

-- the rule of one track: its bytes in use and the zeros beside stand for as many cells as it has, within its capacity
abbrev pub Stands : List ℕ → ℕ → TrackState → Type 0
Stands bytes c s = (s.cells ≤ c) × (s.fill.used + s.fill.zeros ≤ s.cells) × (length (interval_cells bytes s.fill) ≡ s.cells)
