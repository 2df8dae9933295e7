-- What the calls of a cartridge answer, by the cells on it.
use Rattle.std.specs.Prelude.{ℕ, ◌+◌, cond, length, Ok, Err, Result, nat_le, nat_lt}
use Rattle.tape.specs.Tape.{Tape, track}
use Rattle.tape.specs.declared.refusal.Refusal.{Refusal}
use Rattle.tape.specs.declared.refusal.Refusal.TheVariants.{NoTrack, TrackFull, PastEnd}

-- how many cells the track t has
abbrev pub length_answer : Tape → ℕ → Result ℕ Refusal
length_answer c t = cond (nat_lt t (length c)) (Ok (length (track c t))) (Err NoTrack)

-- a read of n cells from the place p on, of a track with m cells
abbrev pub reading : ℕ → ℕ → ℕ → Result (Unit {0}) Refusal
reading m p n = cond (nat_le (p + n) m) (Ok tt) (Err PastEnd)

-- an append of n cells to a track with m cells, where there is room for so many
abbrev pub appending : ℕ → ℕ → ℕ → Result (Unit {0}) Refusal
appending m n room = cond (nat_le (m + n) room) (Ok tt) (Err TrackFull)

-- a read of n cells of the track t from the place p on
abbrev pub read_answer : Tape → ℕ → ℕ → ℕ → Result (Unit {0}) Refusal
read_answer c t p n = cond (nat_lt t (length c)) (reading (length (track c t)) p n) (Err NoTrack)

-- an append of n cells to the track t, with room for so many on each
abbrev pub append_answer : Tape → ℕ → ℕ → ℕ → Result (Unit {0}) Refusal
append_answer c room t n = cond (nat_lt t (length c)) (appending (length (track c t)) n room) (Err NoTrack)
