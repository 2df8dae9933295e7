-- What a call sends: copies, each where it is said to be put, and ones that close a track.
use Rattle.std.specs.Prelude.{◌≡◌, ℕ, ◌+◌, Bool, true, false, cond, List, [], ◌∷◌, length, ◌==◌}
use Rattle.qic24.specs.Copy.{Numbered, ones}
use Rattle.qic24.specs.declared.layout.Preamble.{Preamble}
use Rattle.qic24.specs.declared.layout.Preamble.TheVariants.{Normal, Elongated, Long}
use Rattle.tape.specs.Tape.{Tape, track, Run, run, Longer}
use Rattle.replay.specs.Copies.{CopyAt, In}
use Rattle.replay.specs.Replay.{ReplayProgress}
use Rattle.deck.specs.Measures.{copy_head, closing_ones}
use Rattle.deck.specs.Calls.{DeckCall, next_number, AnsweredCall, handed_in}
use Rattle.deck.specs.Deck.{nothing_pending, item_pending, item_failed, DeckState, deck_idle, deck_recording, copy_run, call_does}
use Rattle.deck.specs.CallsMade.{Made}

-- the preamble that a copy on a track gets: the long one where the track has no cells, the elongated one where it has but the recording has no copy yet, and else the normal one
abbrev pub preamble_for : Bool → Tape → ℕ → Preamble
preamble_for first c t = cond (length (track c t) == 0) Long (cond first Elongated Normal)

-- runs that carry these copies, in order, and nothing else but closing ones, whatever the medium makes of each. A copy is put where its preamble and its marker end
pub data Carries (first : Bool) : Tape → List Run → List CopyAt → Type 0 where
  no_run : {c : Tape} → Carries first c [] []
  copy_sent : {c : Tape} {rs : List Run} {fs : List CopyAt} (f : CopyAt) (p : Preamble) →
      p ≡ preamble_for first c f.place.on → f.place.at ≡ length (track c f.place.on) + copy_head p →
      ((m : Tape) → Longer (copy_run p f) c m → Carries first m rs fs) → Carries first c (copy_run p f ∷ rs) (f ∷ fs)
  ones_sent : {c : Tape} {rs : List Run} {fs : List CopyAt} (t : ℕ) →
      ((m : Tape) → Longer (run t (ones closing_ones)) c m → Carries first m rs fs) → Carries first c (run t (ones closing_ones) ∷ rs) fs

-- a recording that has no copy on the tape yet
abbrev pub no_copy_yet : DeckState → Bool
no_copy_yet deck_idle = false
no_copy_yet (deck_recording s nothing_pending) = true
no_copy_yet (deck_recording s (item_pending x)) = false
no_copy_yet (deck_recording s (item_failed n)) = false

-- the copies that a call puts are exactly those among the runs that it sends
abbrev pub PutsWhatItSends : Type 0
PutsWhatItSends =
    (room : ℕ) (b : Tape) (ds : List AnsweredCall) (log : List CopyAt) (c : Tape) (s : DeckState) → Made room b deck_idle ds log c s →
    (r : ReplayProgress) (good : CopyAt → Bool) (call : DeckCall) → Carries (no_copy_yet s) c (call_does r good room c s call).runs (call_does r good room c s call).puts

-- an item that a call takes is among the copies that it puts
abbrev pub PutsWhatItTakes : Type 0
PutsWhatItTakes =
    (r : ReplayProgress) (good : CopyAt → Bool) (room : ℕ) (c : Tape) (s : DeckState) (call : DeckCall) (n : ℕ) → (call_does r good room c s call).answer ≡ next_number n →
    (i : Numbered) → In i (handed_in call n) → (f : CopyAt) × In f (call_does r good room c s call).puts × (f.item ≡ i)
