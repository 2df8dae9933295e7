-- A medium that spoils nothing, and how recording goes there.
use Rattle.std.specs.Prelude.{◌≡◌, ℕ, suc, ◌+◌, ◌-◌, ◌<◌, ◌≤◌, true, ◌⊎◌, ◌↔◌, List, [], ◌∷◌, length, ◌≢◌}
use Rattle.std.specs.List.{AllByRecursion}
use Rattle.tape.specs.Tape.{Tape, most_tracks, Run, Grown, blank}
use Rattle.replay.specs.Copies.{OfCartridge, CopyAt, In, Sound}
use Rattle.replay.specs.Seeking.{tape_replay}
use Rattle.deck.specs.Measures.{item_room, number_limit}
use Rattle.deck.specs.Calls.{DeckCall, begin_call, write_call, mark_call, stop_call, DeckAnswer, next_number, kept_total, unwritable, AnsweredCall}
use Rattle.deck.specs.Deck.{RecordingNumbers, DeckState, deck_idle, deck_recording, end_track, end_place, call_does}
use Rattle.deck.specs.CallsMade.{outcome, Made, no_call, call_more}

-- the runs were taken as they were sent
abbrev pub AsSent : (rs : List Run) (c e : Tape) → Grown c rs e → Type 0
AsSent [] c e g = Unit {0}
AsSent (r ∷ rs) c e (m, l, g) = (l.added ≡ r.sent) × AsSent rs m e g

-- so were those of all these calls
abbrev pub NoneSpoiled : (room : ℕ) (c : Tape) (s : DeckState) (ds : List AnsweredCall) (log : List CopyAt) (e : Tape) (t : DeckState) → Made room c s ds log e t → Type 0
NoneSpoiled room c s ds log e t no_call = Unit {0}
NoneSpoiled room c s ds log e t (call_more {ds = rest} {log = later} call m g then) =
    AsSent (outcome room c m s call).runs c m g × NoneSpoiled room m (outcome room c m s call).state rest later e t then

-- a block that is handed in is of bytes
abbrev pub OfBytes : DeckCall → Type 0
OfBytes begin_call = Unit {0}
OfBytes (write_call bs) = AllByRecursion (λ b. b < 256) bs
OfBytes mark_call = Unit {0}
OfBytes stop_call = Unit {0}

abbrev pub AllOfBytes : List AnsweredCall → Type 0
AllOfBytes [] = Unit {0}
AllOfBytes (d ∷ ds) = OfBytes d.call × AllOfBytes ds

-- within the limits: a number is left, and room for an item, on this track or on a next one
pub record WithinLimits (room : ℕ) (c : Tape) (s : RecordingNumbers) : Type 0 where
  pub number : s.next < number_limit
  pub cells : (end_place c + item_room ≤ room) ⊎ (suc (end_track c) < length c)

-- an item within the limits is taken, and stop tells all that were taken
abbrev pub AnswersWell : ℕ → Tape → DeckState → DeckCall → DeckAnswer → Type 0
AnswersWell room c deck_idle call a = Unit {0}
AnswersWell room c (deck_recording s p) begin_call a = Unit {0}
AnswersWell room c (deck_recording s p) (write_call bs) a = length bs ≡ 512 → WithinLimits room c s → a ≡ next_number s.next
AnswersWell room c (deck_recording s p) mark_call a = WithinLimits room c s → a ≡ next_number s.next
AnswersWell room c (deck_recording s p) stop_call a = a ≡ kept_total (s.next - s.first)

-- a call where nothing was spoiled: every copy is sound, it writes no item twice, none is refused as one that can't be written, and all is as where every copy is known to come out good
pub record GoesWell (room : ℕ) (c m : Tape) (s : DeckState) (call : DeckCall) : Type 0 where
  pub sound : (f : CopyAt) → In f (outcome room c m s call).puts → Sound m f
  pub once : (f g : CopyAt) → In f (outcome room c m s call).puts → In g (outcome room c m s call).puts → f.item ≡ g.item → f ≡ g
  pub written : (n : ℕ) → (outcome room c m s call).answer ≢ unwritable n
  pub answered : AnswersWell room c s call (outcome room c m s call).answer
  pub as_good : outcome room c m s call ≡ call_does (tape_replay c) (λ f. true) room c s call

-- every call of a deck goes well on a medium that spoils nothing, whatever tape it was opened on
abbrev pub AllGoesWell : Type 0
AllGoesWell =
    (room : ℕ) (b : Tape) → OfCartridge b → (ds : List AnsweredCall) (log : List CopyAt) (c : Tape) (s : DeckState) (d : Made room b deck_idle ds log c s) →
    NoneSpoiled room b deck_idle ds log c s d → AllOfBytes ds →
    (call : DeckCall) (m : Tape) (g : Grown c (outcome room c m s call).runs m) → AsSent (outcome room c m s call).runs c m g → OfBytes call → GoesWell room c m s call

-- and every call can be made there; a cartridge without tracks has no room
abbrev pub CanBeMade : Type 0
CanBeMade =
    (room : ℕ) (b : Tape) → OfCartridge b → (length b ≡ 0 → room ≡ 0) → (ds : List AnsweredCall) (log : List CopyAt) (c : Tape) (s : DeckState) (d : Made room b deck_idle ds log c s) →
    NoneSpoiled room b deck_idle ds log c s d → AllOfBytes ds →
    (call : DeckCall) → (m : Tape) × (g : Grown c (outcome room c m s call).runs m) × AsSent (outcome room c m s call).runs c m g

-- on a new cartridge that spoils nothing all copies that were put are sound, and no other copy is
abbrev pub OnlyWhatWasPut : Type 0
OnlyWhatWasPut =
    (room tracks : ℕ) → tracks ≤ most_tracks → (ds : List AnsweredCall) (log : List CopyAt) (c : Tape) (s : DeckState) (d : Made room (blank tracks) deck_idle ds log c s) →
    NoneSpoiled room (blank tracks) deck_idle ds log c s d → AllOfBytes ds → (f : CopyAt) → Sound c f ↔ In f log
