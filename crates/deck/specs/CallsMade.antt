-- Calls that are made of a deck one after the other, by the cells of its cartridge before, between and after them.
use Rattle.std.specs.Prelude.{ℕ, ◌+◌, ◌≤◌, List, [], ◌∷◌, ◌++◌}
use Rattle.qic24.specs.declared.item.Content.{Content}
use Rattle.tape.specs.Tape.{Tape, Grown, blank}
use Rattle.deck.specs.Measures.{finish_room}
use Rattle.replay.specs.Copies.{CopyAt}
use Rattle.replay.specs.Scan.{stands}
use Rattle.replay.specs.Seeking.{tape_replay}
use Rattle.deck.specs.Calls.{DeckCall, AnsweredCall}
use Rattle.deck.specs.Deck.{RecordingNumbers, item_pending, DeckState, deck_idle, deck_recording, end_place, CallOutcome, call_does}

-- what a call does, by the tape before it and the tape after it
abbrev pub outcome : ℕ → Tape → Tape → DeckState → DeckCall → CallOutcome
outcome room before after s call = call_does (tape_replay before) (stands after) room before s call

-- calls that were made, with their answers and the copies that they put; whatever the medium did with the runs that were sent
pub data Made (room : ℕ) : Tape → DeckState → List AnsweredCall → List CopyAt → Tape → DeckState → Type 0 where
  no_call : {c : Tape} {s : DeckState} → Made room c s [] [] c s
  call_more : {c e : Tape} {s t : DeckState} {ds : List AnsweredCall} {log : List CopyAt} (call : DeckCall) (m : Tape) →
      Grown c (outcome room c m s call).runs m → Made room m (outcome room c m s call).state ds log e t →
      Made room c s (record { call = call; answer = (outcome room c m s call).answer } ∷ ds) ((outcome room c m s call).puts ++ log) e t

-- from a new deck on there is always room to finish what is pending
abbrev pub RoomToFinish : Type 0
RoomToFinish =
    (room tracks : ℕ) (ds : List AnsweredCall) (log : List CopyAt) (c : Tape) (s : RecordingNumbers) (x : Content) →
    Made room (blank tracks) deck_idle ds log c (deck_recording s (item_pending x)) → finish_room + end_place c ≤ room
