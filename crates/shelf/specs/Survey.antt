-- Surveying a tape: its shelf list, filled into rows that are handed in.
use Rattle.std.specs.Prelude.{◌≡◌, ℕ, ◌<◌, ◌≤◌, false, cond, List, [], ◌∷◌, ◌++◌, length, drop, Some, None, Ok, Err, Option, Result, nat_lt}
use Rattle.qic24.specs.Cells.{fold}
use Rattle.qic24.specs.Decode.{mapped_ok}
use Rattle.tape.specs.Tape.{Tape}
use Rattle.replay.specs.Answered.{number_after}
use Rattle.replay.specs.Replay.{ReplayState, expecting, replay_items, ReplayProgress}
use Rattle.replay.specs.Scan.{openings_from}
use Rattle.replay.specs.Seeking.{take_opening, tape_replay}
use Rattle.replay.specs.declared.cursor.ReplayCursor.{ReplayCursor}
use Rattle.replay.specs.declared.unlocated.UnlocatedNumber.{UnlocatedNumber}
use Rattle.replay.specs.declared.unlocated.UnsoundOpening.{UnsoundOpening}
use Rattle.shelf.specs.Shelf.{ShelfRow, rows_from, shelf_list}
use Rattle.shelf.specs.declared.refusal.SurveyRefusal.{SurveyRefusal}
use Rattle.shelf.specs.declared.refusal.SurveyRefusal.TheVariants.{Unlocated, TooFewRows}

-- the rows of a replay that came to its end; or the number that is not located
abbrev pub listed : ReplayState → Option UnsoundOpening → Result (List ShelfRow) UnlocatedNumber
listed s u = mapped_ok (λ _. shelf_list (replay_items s)) (number_after s u)

-- the shelf list of a tape
abbrev pub tape_shelf : Tape → Result (List ShelfRow) UnlocatedNumber
tape_shelf c = listed (tape_replay c).state (tape_replay c).unsound

-- the replay that goes on at a cursor, and what it hands out from there on
abbrev pub replay_from : Tape → ReplayCursor → ReplayProgress
replay_from c k = fold take_opening (record { state = expecting [] k.expected false; unsound = None }) (openings_from c k.from)

-- the rows of a replay, with n blocks of the file under way, which began at f; or the number that is not located
abbrev pub listed_from : ℕ → ℕ → ReplayProgress → Result (List ShelfRow) UnlocatedNumber
listed_from f n r = mapped_ok (λ _. rows_from f n (replay_items r.state)) (number_after r.state r.unsound)

-- the shelf list of a tape from a cursor on
abbrev pub shelf_from : Tape → ReplayCursor → Result (List ShelfRow) UnlocatedNumber
shelf_from c k = listed_from 0 0 (replay_from c k)

-- such a list by its next row and those after it
abbrev pub next_row : Result (Option ShelfRow) UnlocatedNumber → Result (List ShelfRow) UnlocatedNumber → Result (List ShelfRow) UnlocatedNumber
next_row (Ok (Some r)) rest = mapped_ok (λ list. r ∷ list) rest
next_row (Ok None) rest = Ok []
next_row (Err w) rest = Err w

-- a cursor moves on: fewer openings are left, and a greater number is expected
pub record GoesFurther (c : Tape) (k k' : ReplayCursor) : Type 0 where
  pub fewer : length (openings_from c k'.from) < length (openings_from c k.from)
  pub greater : k.expected < k'.expected
  pub most : k'.expected ≤ 1048576

-- what a survey answers, and the rows after it
pub record SurveyOutcome : Type 0 where
  pub answer : Result ℕ SurveyRefusal
  pub rows : List ShelfRow

-- the list fills the first rows and leaves the others; its length is answered. A refusal leaves all of them
abbrev pub survey_by : Result (List ShelfRow) UnlocatedNumber → List ShelfRow → SurveyOutcome
survey_by (Err w) rows = record { answer = Err (Unlocated w); rows = rows }
survey_by (Ok list) rows =
    cond (nat_lt (length rows) (length list)) (record { answer = Err TooFewRows; rows = rows })
    (record { answer = Ok (length list); rows = list ++ drop (length list) rows })

-- a list of rows is put over the first of some others, where these are as many
abbrev pub PutOver : List ShelfRow → List ShelfRow → List ShelfRow → Type 0
PutOver list before after = length list ≤ length before → after ≡ list ++ drop (length list) before
