-- The marks of an interval store's index.
use Rattle.std.specs.Prelude.{◌≡◌, ℕ, ◌+◌, ◌*◌, ◌/◌, ◌<◌, ◌≤◌, List, length, slice_index}
use Rattle.interval.specs.Intervals.{cells_by}

-- the cells from one mark of a track to the next: its 512 marks reach past the capacity
unfoldable pub mark_stride : ℕ → ℕ
mark_stride c = c / 511 + 1

-- the number of the mark k of the track t
abbrev pub mark_of : ℕ → ℕ → ℕ
mark_of t k = t * 512 + k

-- at each mark that the track t has come to, the note says how many bytes, and zeros after them, stand for the cells before it
abbrev pub Noted : List ℕ → ℕ → ℕ → List ℕ → List ℕ → ℕ → Type 0
Noted bytes c cells used zeros t = (k : ℕ) → k * mark_stride c ≤ cells → length (cells_by bytes (slice_index used (mark_of t k)) (slice_index zeros (mark_of t k))) ≡ k * mark_stride c

-- and they are bytes of the n that the track has
abbrev pub OfTrack : ℕ → List ℕ → ℕ → Type 0
OfTrack n used t = (k : ℕ) → k < 512 → slice_index used (mark_of t k) ≤ n
