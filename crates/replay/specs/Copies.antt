-- Copies on a tape: where they stand, which of them are sound, and their order.
use Rattle.std.specs.Prelude.{◌≡◌, ℕ, ◌+◌, ◌<◌, ◌≤◌, ◌⊎◌, List, [], ◌∷◌, length}
use Rattle.std.specs.List.{AllByRecursion}
use Rattle.qic24.specs.Copy.{Numbered}
-- how many cells a copy has after its opening: data, address and CRC
pub use Rattle.qic24.specs.Measures.{body_cells}
use Rattle.qic24.specs.Opening.{SoundAt}
use Rattle.tape.specs.Tape.{Tape, track, Cell}
-- a place on the tape: a track, and a cell of it counted from 0
pub use Rattle.replay.specs.declared.place.TapePlace.{TapePlace}

-- cells as every cartridge has them: at most nine tracks, and each cell a zero or a one
pub record OfCartridge (c : Tape) : Type 0 where
  pub few : length c ≤ 9
  pub binary : (t : ℕ) → AllByRecursion Cell (track c t)

abbrev pub place_on : ℕ → ℕ → TapePlace
place_on t p = record { on = t; at = p }

-- the copy of an item: where its first data cell is, and what it holds
pub record CopyAt : Type 0 where
  pub place : TapePlace
  pub item : Numbered

abbrev pub placed : TapePlace → Numbered → CopyAt
placed p i = record { place = p; item = i }

-- a sound copy on a tape: after an opening, the cells of a proper item, recorded for this track
abbrev pub Sound : Tape → CopyAt → Type 0
Sound c f = SoundAt f.place.on (track c f.place.on) f.place.at f.item

-- all 5,180 cells of a copy are on the tape
abbrev pub Whole : Tape → CopyAt → Type 0
Whole c f = f.place.at + body_cells ≤ length (track c f.place.on)

-- tape order: track after track, and on a track from its start
abbrev pub Before : TapePlace → TapePlace → Type 0
Before a b = (a.on < b.on) ⊎ ((a.on ≡ b.on) × (a.at < b.at))

-- the place q is p or comes after it
abbrev pub AtOrAfter : TapePlace → TapePlace → Type 0
AtOrAfter p q = (p.on < q.on) ⊎ ((p.on ≡ q.on) × (p.at ≤ q.at))

-- the copy f stands before all of these
abbrev pub BeforeAll : CopyAt → List CopyAt → Type 0
BeforeAll f [] = Unit {0}
BeforeAll f (g ∷ gs) = Before f.place g.place × BeforeAll f gs

-- in tape order, no two at one place
abbrev pub Ascending : List CopyAt → Type 0
Ascending [] = Unit {0}
Ascending (f ∷ fs) = BeforeAll f fs × Ascending fs

-- x is one of the list
pub data In {A : Type 0} (x : A) : List A → Type 0 where
  here : {xs : List A} → In x (x ∷ xs)
  there : {y : A} {xs : List A} → In x xs → In x (y ∷ xs)

-- all the sound copies of a tape, in tape order
pub record Lists (c : Tape) (fs : List CopyAt) : Type 0 where
  pub ordered : Ascending fs
  pub each : (f : CopyAt) → In f fs → Sound c f
  pub all : (f : CopyAt) → Sound c f → In f fs

-- every sound copy stands where one was put, and holds the item that was sent there
abbrev pub NoFalseCopy : Tape → List CopyAt → Type 0
NoFalseCopy c log = (f : CopyAt) → Sound c f → In f log
