-- The next item of a recording, by the item that is still unchecked.
use Rattle.std.specs.Prelude.{ℕ, suc, ◌-◌, Bool, cond, [], Some, None, Option, Ok, Err, Result}
use Rattle.qic24.specs.Copy.{Numbered}
use Rattle.tape.specs.Tape.{Tape}
use Rattle.replay.specs.Copies.{CopyAt}
use Rattle.qic24.specs.declared.item.Content.{Content}
use Rattle.deck.specs.Calls.{DeckAnswer, next_number, unwritable, item_of}
use Rattle.deck.specs.Deck.{RecordingNumbers, item_pending, item_failed, DeckState, deck_idle, deck_recording, CallOutcome, declines, end_track, fails, starts, follows, changes_track, short_to_finish, alone_failures, pair_failures, takes_item}
use Rattle.deck.specs.LastCopies.{last_copy}
use Rattle.deck.specs.declared.failed.FailedItem.{FailedItem}

-- what write and mark do alike, by what the item holds
abbrev pub takes_content : ℕ → Tape → (CopyAt → Bool) → DeckState → Content → CallOutcome
takes_content room c good deck_idle x = declines 15 deck_idle
takes_content room c good (deck_recording s p) x = takes_item room c good s p (item_of s.next x)

-- with room on the track: after the unchecked item, or as the first of the recording there
abbrev pub stays_on : ℕ → Tape → (CopyAt → Bool) → RecordingNumbers → Option Numbered → Numbered → CallOutcome
stays_on room c good s None M = starts room c s (end_track c) M
stays_on room c good s (Some N) M = follows room c s (last_copy c N) M (pair_failures room c good (last_copy c N))

-- with too little: on the next track, when the unchecked item is finished
abbrev pub moves_on : ℕ → Tape → (CopyAt → Bool) → RecordingNumbers → Option Numbered → Numbered → CallOutcome
moves_on room c good s None M = starts room c s (suc (end_track c)) M
moves_on room c good s (Some N) M = cond (short_to_finish room c) (fails s (s.next - 1) [] []) (changes_track room c s (last_copy c N) M (alone_failures room c good (last_copy c N)))

-- the answer, and what the deck then keeps, by what writing was answered
abbrev pub written_answer : RecordingNumbers → Result (Unit {0}) FailedItem → DeckAnswer
written_answer s (Ok u) = next_number s.next
written_answer s (Err e) = unwritable e.number

abbrev pub written_state : RecordingNumbers → Numbered → Result (Unit {0}) FailedItem → DeckState
written_state s M (Ok u) = deck_recording (record { first = s.first; next = suc s.next }) (item_pending M.content)
written_state s M (Err e) = deck_recording s (item_failed e.number)
