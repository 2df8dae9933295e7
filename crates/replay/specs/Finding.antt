-- What next finds, said of the cells of a tape.
use Rattle.std.specs.Prelude.{◌≡◌, ℕ, suc, ◌<◌, true, ◌⊎◌, ◌↔◌, drop, Err, MatchOption}
use Rattle.qic24.specs.Copy.{Numbered}
use Rattle.qic24.specs.Decode.{decoded}
use Rattle.qic24.specs.Opening.{Opens}
use Rattle.tape.specs.Tape.{Tape, track}
use Rattle.replay.specs.Copies.{OfCartridge, TapePlace, CopyAt, placed, Sound, Before, AtOrAfter}
use Rattle.replay.specs.Replay.{UnsoundOpening, UnlocatedNumber}
use Rattle.replay.specs.Seeking.{FindResult, found_item, found_end, found_beyond, ReplayCursor, next_found}

-- a number that is passed over while n is expected
abbrev pub PassedOver : ℕ → ℕ → Type 0
PassedOver n k = (k < n) ⊎ (k ≡ suc n)

-- the sound copies from the place p on and before q are passed over
abbrev pub PassedBetween : Tape → ℕ → TapePlace → TapePlace → Type 0
PassedBetween c n p q = (g : CopyAt) → Sound c g → AtOrAfter p g.place → Before g.place q → PassedOver n g.item.number

-- an opening of the tape whose copy is not sound, and the first cause why
pub record UnsoundOn (c : Tape) (w : UnsoundOpening) : Type 0 where
  pub opens : Opens (track c w.place.on) w.place.at
  pub cause : decoded w.place.on (drop w.place.at (track c w.place.on)) ≡ Err w.cause

-- w is the last unsound opening from the place p on and before q
pub record LastUnsound (c : Tape) (p q : TapePlace) (w : UnsoundOpening) : Type 0 where
  pub unsound : UnsoundOn c w
  pub past : AtOrAfter p w.place
  pub before : Before w.place q
  pub last : (v : UnsoundOpening) → UnsoundOn c v → Before w.place v.place → Before v.place q → ⊥

-- there is none from the place p on and before q
abbrev pub NoneUnsound : Tape → TapePlace → TapePlace → Type 0
NoneUnsound c p q = (v : UnsoundOpening) → UnsoundOn c v → AtOrAfter p v.place → Before v.place q → ⊥

-- the item of the number n, at the first place after which the tape hands it out
pub record FindsItem (c : Tape) (n : ℕ) (p : TapePlace) (f : CopyAt) : Type 0 where
  pub sound : Sound c f
  pub number : f.item.number ≡ n
  pub past : AtOrAfter p f.place
  pub passed : PassedBetween c n p f.place

-- the end: every sound copy that is left is passed over, and `passed` tells whether one of them has the number n + 1
pub record FindsEnd (c : Tape) (n : ℕ) (p : TapePlace) (passed : Type 0) : Type 0 where
  pub all_passed : (g : CopyAt) → Sound c g → AtOrAfter p g.place → PassedOver n g.item.number
  pub tells : passed ↔ ((g : CopyAt) × Sound c g × AtOrAfter p g.place × (g.item.number ≡ suc n))

-- a number beyond n + 1 before any copy of n: which was expected, where the later copy stands, and the last unsound opening before it
pub record FindsBeyond (c : Tape) (n : ℕ) (p : TapePlace) (w : UnlocatedNumber) : Type 0 where
  pub expected : w.expected ≡ n
  pub item : Numbered
  pub sound : Sound c (placed w.found item)
  pub beyond : suc n < item.number
  pub past : AtOrAfter p w.found
  pub passed : PassedBetween c n p w.found
  pub unsound : MatchOption w.unsound (NoneUnsound c p w.found) (λ v. LastUnsound c p w.found v)

-- what is found when n is expected from the place p on
abbrev pub Finds : Tape → ℕ → TapePlace → FindResult → Type 0
Finds c n p (found_item f) = FindsItem c n p f
Finds c n p (found_end passed) = FindsEnd c n p (passed ≡ true)
Finds c n p (found_beyond w) = FindsBeyond c n p w

-- next finds what stands on the tape from its cursor on
abbrev pub NextFinds : Type 0
NextFinds = (c : Tape) → OfCartridge c → (k : ReplayCursor) → Finds c k.expected k.from (next_found c k)
