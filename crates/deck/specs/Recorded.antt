-- What holds of a deck that was opened on any tape and then recorded, whatever the medium made of the cells.
use Rattle.std.specs.Prelude.{◌≡◌, ℕ, suc, ◌+◌, ◌<◌, ◌≤◌, Bool, List, [], ◌∷◌, ◌++◌, length, ◌≢◌}
use Rattle.qic24.specs.Copy.{Numbered}
use Rattle.qic24.specs.declared.layout.Preamble.TheVariants.{Normal}
use Rattle.tape.specs.Tape.{Tape, track, Run, Longer}
use Rattle.replay.specs.Copies.{OfCartridge, CopyAt}
use Rattle.replay.specs.Replay.{ReplayProgress}
use Rattle.deck.specs.Measures.{copy_head, copy_tail, item_room, finish_room, number_limit}
use Rattle.deck.specs.Calls.{DeckCall, begin_call, stop_call, DeckAnswer, next_number, kept_total, refused_with, unwritable, unlocated, AnsweredCall, kept_list}
use Rattle.deck.specs.Deck.{RecordingNumbers, RecordingPhase, nothing_pending, item_pending, item_failed, DeckState, deck_idle, deck_recording, end_place, call_does}
use Rattle.deck.specs.CallsMade.{Made}

-- by what is pending. Nothing: no item was taken yet. An item: there is room to finish it, and its last copy lies whole on the track, behind its opening. A failed one: it is the last that was taken
abbrev pub PhaseHolds : ℕ → Tape → RecordingNumbers → RecordingPhase → Type 0
PhaseHolds room c s nothing_pending = s.first ≡ s.next
PhaseHolds room c s (item_pending x) = (s.first < s.next) × (finish_room + end_place c ≤ room) × (copy_head Normal + copy_tail ≤ end_place c)
PhaseHolds room c s (item_failed n) = (s.first ≤ n) × (s.next ≡ suc n)

-- an open recording never runs short: of cells, of numbers, or of the copy that it has to check
pub record NeverShort (room : ℕ) (c : Tape) (s : RecordingNumbers) (p : RecordingPhase) : Type 0 where
  pub enough : item_room ≤ room  -- so that an empty track takes any item
  pub least : 1 ≤ s.first
  pub in_order : s.first ≤ s.next
  pub most : s.next ≤ number_limit
  pub phase : PhaseHolds room c s p

-- this holds from the opening of a deck on, whatever tape it was opened on
abbrev pub NothingRunsShort : Type 0
NothingRunsShort =
    (room : ℕ) (b : Tape) (ds : List AnsweredCall) (log : List CopyAt) (c : Tape) (s : RecordingNumbers) (p : RecordingPhase) →
    Made room b deck_idle ds log c (deck_recording s p) → OfCartridge c → NeverShort room c s p

-- runs that are never refused: each has its track, with room for its cells, whatever the medium made of those before it
abbrev pub AllFit : ℕ → Tape → List Run → Type 0
AllFit room c [] = Unit {0}
AllFit room c (r ∷ rs) = (r.on < length c) × (length (track c r.on) + length r.sent ≤ room) × ((m : Tape) → Longer r c m → AllFit room m rs)

-- what any call sends, whichever of its copies come out good; a cartridge without tracks has no room
abbrev pub RunsFit : Type 0
RunsFit =
    (room : ℕ) (b : Tape) → (length b ≡ 0 → room ≡ 0) → (ds : List AnsweredCall) (log : List CopyAt) (c : Tape) (s : DeckState) →
    Made room b deck_idle ds log c s → (r : ReplayProgress) (good : CopyAt → Bool) (call : DeckCall) → AllFit room c (call_does r good room c s call).runs

-- a call and what it was answered
abbrev pub answered : DeckCall → DeckAnswer → AnsweredCall
answered call a = record { call = call; answer = a }

-- no stop is among these calls, so that a recording stays open
abbrev pub NoStop : List AnsweredCall → Type 0
NoStop [] = Unit {0}
NoStop (d ∷ ds) = (d.call ≢ stop_call) × NoStop ds

-- what stop answers, by the lists kept before it and after it: how long the list is, or the number of its last item, which is thereby taken out
abbrev pub StopTells : DeckAnswer → List Numbered → List Numbered → Type 0
StopTells (kept_total k) before after = (k ≡ length after) × (after ≡ before)
StopTells (unwritable n) before after = (i : Numbered) × (before ≡ after ++ (i ∷ [])) × (i.number ≡ n)
StopTells (next_number n) before after = ⊥
StopTells (refused_with k) before after = ⊥
StopTells (unlocated w) before after = ⊥

-- stop tells the length of the list that was kept since the recording began
abbrev pub StopCounts : Type 0
StopCounts =
    (room n : ℕ) (b e : Tape) (ds : List AnsweredCall) (a : DeckAnswer) (log : List CopyAt) (t : DeckState) → NoStop ds →
    Made room b deck_idle (answered begin_call (next_number n) ∷ (ds ++ (answered stop_call a ∷ []))) log e t →
    StopTells a (kept_list ds) (kept_list (ds ++ (answered stop_call a ∷ [])))
