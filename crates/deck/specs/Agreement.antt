-- List and tape agree: the promise, over tapes and calls.
use Rattle.std.specs.Prelude.{◌≡◌, ℕ, suc, Bool, ◌↔◌, List, ◌++◌, length}
use Rattle.qic24.specs.Copy.{Numbered}
use Rattle.tape.specs.Tape.{Tape, blank}
use Rattle.replay.specs.Copies.{OfCartridge, CopyAt, NoFalseCopy}
use Rattle.replay.specs.Replay.{expecting, replay_items}
use Rattle.replay.specs.Seeking.{tape_replay}
use Rattle.deck.specs.Calls.{AnsweredCall, kept_list}
use Rattle.deck.specs.Deck.{deck_idle}
use Rattle.deck.specs.CallsMade.{Made}
use Rattle.shelf.specs.Shelf.{shelf_list, mark_under}

-- a new cartridge on which two operators made these calls, one taking over where the other has stopped, neither leaving a recording open, and the cells that it then holds, with no false copy
pub record Deposit (tape : Tape) (one two : List AnsweredCall) : Type 0 where
  pub room : ℕ
  pub tracks : ℕ
  pub middle : Tape
  pub log_one : List CopyAt
  pub log_two : List CopyAt
  pub by_one : Made room (blank tracks) deck_idle one log_one middle deck_idle
  pub by_two : Made room middle deck_idle two log_two tape deck_idle
  pub cells : OfCartridge tape
  pub no_false : NoFalseCopy tape (log_one ++ log_two)

-- what two operators kept
abbrev pub kept_by_both : List AnsweredCall → List AnsweredCall → List Numbered
kept_by_both one two = kept_list one ++ kept_list two

-- what the replay of a tape hands out
abbrev pub replayed : Tape → List Numbered
replayed c = replay_items (tape_replay c).state

-- the replay is the first's kept list, then the second's, then end
abbrev pub HandedOver : Type 0
HandedOver =
    (c : Tape) (one two : List AnsweredCall) → Deposit c one two →
    (b : Bool) × ((tape_replay c).state ≡ expecting (kept_by_both one two) (suc (length (kept_by_both one two))) b)

-- equal replays exactly when the kept lists are equal
abbrev pub EqualReplays : Type 0
EqualReplays =
    (c d : Tape) (one two three four : List AnsweredCall) → Deposit c one two → Deposit d three four →
    (replayed c ≡ replayed d) ↔ (kept_by_both one two ≡ kept_by_both three four)

-- equally long, with marks at the same numbers
abbrev pub SameMarks : List Numbered → List Numbered → Type 0
SameMarks xs ys = (length xs ≡ length ys) × ((k : ℕ) → mark_under k xs ≡ mark_under k ys)

-- equal shelf lists exactly when the kept lists are equally long and have marks at the same numbers
abbrev pub EqualShelves : Type 0
EqualShelves =
    (c d : Tape) (one two three four : List AnsweredCall) → Deposit c one two → Deposit d three four →
    (shelf_list (replayed c) ≡ shelf_list (replayed d)) ↔ SameMarks (kept_by_both one two) (kept_by_both three four)

-- all three
abbrev pub ListAndTape : Type 0
ListAndTape = HandedOver × EqualReplays × EqualShelves
