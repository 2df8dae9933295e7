-- The refusals of a deck: the number of each, and the answer that it is.
use Rattle.std.specs.Fmt.{decimal}
use Rattle.std.specs.Prelude.{ℕ, List, [], ◌∷◌, ◌++◌, Ok, Err, Result}
use Rattle.replay.specs.Seeking.{rewound_cursor}
use Rattle.replay.specs.declared.cursor.ReplayCursor.{ReplayCursor}
use Rattle.deck.specs.Calls.{DeckAnswer, next_number, kept_total, refused_with, unwritable, unlocated}
use Rattle.deck.specs.declared.failed.FailedItem.{FailedItem}
use Rattle.deck.specs.declared.obligation.Obligation.{Obligation}
use Rattle.deck.specs.declared.obligation.StopRefusal.{StopRefusal}
use Rattle.deck.specs.declared.obligation.StopRefusal.TheVariants as stop
use Rattle.deck.specs.declared.refusal.Refusal.{Refusal}
use Rattle.deck.specs.declared.refusal.Refusal.TheVariants.{WrongSize, CapacityTooSmall, MediaEnd, NumbersUsedUp, Unwritable, NotRecording, StillRecording, Unlocated}

-- the number of each
abbrev pub refusal_number : Refusal → ℕ
refusal_number WrongSize = 1
refusal_number CapacityTooSmall = 11
refusal_number MediaEnd = 12
refusal_number NumbersUsedUp = 13
refusal_number (Unwritable n) = 14
refusal_number NotRecording = 15
refusal_number StillRecording = 16
refusal_number (Unlocated w) = 17

-- what is printed behind the number: a space and the item's number, where one is named
abbrev pub item_text : Refusal → List ℕ
item_text WrongSize = []
item_text CapacityTooSmall = []
item_text MediaEnd = []
item_text NumbersUsedUp = []
item_text (Unwritable n) = 32 ∷ decimal n
item_text NotRecording = []
item_text StillRecording = []
item_text (Unlocated w) = 32 ∷ decimal w.expected

-- what is printed of a refusal
abbrev pub refusal_text : Refusal → List ℕ
refusal_text e = decimal (refusal_number e) ++ item_text e

-- a refusal as an answer: two of them carry more than their number
abbrev pub refused : Refusal → DeckAnswer
refused WrongSize = refused_with (refusal_number WrongSize)
refused CapacityTooSmall = refused_with (refusal_number CapacityTooSmall)
refused MediaEnd = refused_with (refusal_number MediaEnd)
refused NumbersUsedUp = refused_with (refusal_number NumbersUsedUp)
refused (Unwritable n) = unwritable n
refused NotRecording = refused_with (refusal_number NotRecording)
refused StillRecording = refused_with (refusal_number StillRecording)
refused (Unlocated w) = unlocated w

-- what write and mark answer
abbrev pub taken_answer : Result ℕ Refusal → DeckAnswer
taken_answer (Ok n) = next_number n
taken_answer (Err e) = refused e

-- what begin answers, with the obligation that it hands out
abbrev pub begun_answer : Result (ℕ × Obligation) Refusal → DeckAnswer
begun_answer (Ok b) = next_number b.0
begun_answer (Err e) = refused e

-- what a recording that closes is answered: its total, or the item that can't be written
abbrev pub closed_answer : Result ℕ FailedItem → DeckAnswer
closed_answer (Ok n) = kept_total n
closed_answer (Err e) = refused (Unwritable e.number)

-- a refusal of stop, which may hand the obligation back
abbrev pub stop_refused : StopRefusal → Refusal
stop_refused (stop.NotRecording o) = NotRecording
stop_refused (stop.Unwritable n) = Unwritable n

abbrev pub stop_number : StopRefusal → ℕ
stop_number e = refusal_number (stop_refused e)

-- what stop answers
abbrev pub stopped_answer : Result ℕ StopRefusal → DeckAnswer
stopped_answer (Ok n) = kept_total n
stopped_answer (Err e) = refused (stop_refused e)

-- stop rewinds, unless no recording was open
abbrev pub stopped_cursor : ReplayCursor → Result ℕ StopRefusal → ReplayCursor
stopped_cursor k (Ok n) = rewound_cursor
stopped_cursor k (Err (stop.NotRecording o)) = k
stopped_cursor k (Err (stop.Unwritable n)) = rewound_cursor
