-- What holds of the copies on every tape of a cartridge, and of its replay.
use Rattle.std.specs.Prelude.{◌≡◌, ℕ, ◌+◌, ◌≤◌, true, ◌⊎◌, ◌↔◌, List, length, take, ◌≢◌}
use Rattle.qic24.specs.Cells.{fold}
use Rattle.qic24.specs.Opening.{Opens}
use Rattle.tape.specs.Tape.{Tape, Run, Grown}
use Rattle.replay.specs.Copies.{body_cells, OfCartridge, CopyAt, Sound, Whole, Lists}
use Rattle.replay.specs.Replay.{advance, rewound, replay_items, NumberedFrom}
use Rattle.replay.specs.Scan.{opens_here, sound_copies, stands}
use Rattle.replay.specs.Seeking.{next_found, ending, cursor_at, handed_out, tape_replay}

-- the test of an opening is exact
abbrev pub OpensExactly : Type 0
OpensExactly = (c : List ℕ) (p : ℕ) → (opens_here c p ≡ true) ↔ Opens c p

-- reading lists all the sound copies of a tape, in tape order, and no others
abbrev pub ListsSoundCopies : Type 0
ListsSoundCopies = (c : Tape) → OfCartridge c → Lists c (sound_copies c)

-- there is one such list
abbrev pub OneList : Type 0
OneList = (c : Tape) (fs gs : List CopyAt) → Lists c fs → Lists c gs → fs ≡ gs

-- reading at a place tells exactly whether a sound copy of the item stands there
abbrev pub StandsExactly : Type 0
StandsExactly = (c : Tape) → OfCartridge c → (f : CopyAt) → (stands c f ≡ true) ↔ Sound c f

-- the cells of the copy f end before those of g begin, or they are on different tracks
abbrev pub ClearOf : CopyAt → CopyAt → Type 0
ClearOf f g = (f.place.on ≢ g.place.on) ⊎ (f.place.at + body_cells ≤ g.place.at)

-- two sound copies of a tape are one, or have no cell in common
abbrev pub NeverOverlap : Type 0
NeverOverlap = (c : Tape) → OfCartridge c → (f g : CopyAt) → Sound c f → Sound c g → (f ≡ g) ⊎ (ClearOf f g ⊎ ClearOf g f)

-- a copy that lies whole on a tape is sound or not for good, however the tape grows
abbrev pub SoundForGood : Type 0
SoundForGood = (c e : Tape) (rs : List Run) → Grown c rs e → (f : CopyAt) → Whole c f → Sound e f ↔ Sound c f

-- the replay takes the sound copies in tape order, and nothing else decides what it hands out and how it ends
abbrev pub ReplaysSoundCopies : Type 0
ReplaysSoundCopies = (c : Tape) → (tape_replay c).state ≡ fold advance rewound (sound_copies c)

-- next after next, from a rewind on, hands out the items of the replay one by one, and then finds its end or the number beyond, again and again
abbrev pub NextByNext : Type 0
NextByNext =
    (c : Tape) → OfCartridge c → (k : ℕ) →
    (handed_out c k ≡ take k (replay_items (tape_replay c).state)) ×
    (length (replay_items (tape_replay c).state) ≤ k → next_found c (cursor_at c k) ≡ ending (tape_replay c).state (tape_replay c).unsound)

-- what a replay hands out is numbered from 1 on, one after the other
abbrev pub ReplaysInOrder : Type 0
ReplaysInOrder = (c : Tape) → NumberedFrom 1 (replay_items (tape_replay c).state)
