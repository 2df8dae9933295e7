-- The number of each refusal.
use Rattle.std.specs.Prelude.{ℕ}
use Rattle.tape.specs.declared.refusal.Refusal.{Refusal}
use Rattle.tape.specs.declared.refusal.Refusal.TheVariants.{FlawOutside, FlawTooEarly, NoTrack, BadStore, SheetFull, TrackFull, PastEnd}

-- by which a refusal is printed
abbrev pub refusal_number : Refusal → ℕ
refusal_number FlawOutside = 4
refusal_number FlawTooEarly = 5
refusal_number NoTrack = 6
refusal_number BadStore = 7
refusal_number SheetFull = 19
refusal_number TrackFull = 20
refusal_number PastEnd = 21
