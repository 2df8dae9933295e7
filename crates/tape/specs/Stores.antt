-- What holds of every store: the sizes that it can be made with, and that it spoils nothing.
use Rattle.std.specs.Prelude.{◌≡◌, ℕ, ◌*◌, ◌<◌, Bool, ◌&&◌, ◌++◌, length, nat_le, slice_set}
use Rattle.tape.specs.Tape.{Tape, most_tracks, most_cells, track, Run}

-- one track at least, and one cell at least on each, up to what a cartridge can have
abbrev pub within_limits : ℕ → ℕ → Bool
within_limits t c = (nat_le 1 t && nat_le t most_tracks) && (nat_le 1 c && nat_le c most_cells)

-- and memory enough for them, of m bytes for each track
abbrev pub store_fits : ℕ → ℕ → ℕ → ℕ → Bool
store_fits t c m bytes = within_limits t c && nat_le (t * m) bytes

-- the tape after a run to a medium that spoils nothing: the track's cells, followed by those that were sent
pub record Unspoiled (r : Run) (before after : Tape) : Type 0 where
  pub there : r.on < length before
  pub is : after ≡ slice_set before r.on (track before r.on ++ r.sent)

-- what an append to a store leads to
abbrev pub Stores : {S : Type 0} → (S → Tape) → (S → ℕ) → S → Run → S → Type 0
Stores tape room s r e = Unspoiled r (tape s) (tape e) × (room e ≡ room s)
