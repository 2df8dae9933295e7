-- What an operator did with a deck.
use Rattle.std.specs.Prelude.{◌≡◌, ℕ, List, length, is_some, vec_items}
use Rattle.tape.specs.Tape.{Tape}
use Rattle.replay.specs.Copies.{CopyAt}
use Rattle.deck.specs.CallsMade.{Made}
use Rattle.deck.specs.Deck.{DeckState, deck_idle}
use Rattle.deck.specs.Ending.{is_open}
use Rattle.deposit.specs.OperatorCalls.{Answer, answered_calls, calls_by}
use Rattle.deposit.specs.declared.call.Call.{Call}
use Rattle.deposit.specs.declared.call.Operated.{Operated}

-- calls of a deck with no recording open, each with its answer, and where they leave it; they put the copies of some log
pub record CallsMade (room : ℕ) (before : Tape) (calls : List Call) (answers : List Answer) (after : Tape) (left : DeckState) : Type 0 where
  pub each : length answers ≡ length calls
  pub log : List CopyAt
  pub made : Made room before deck_idle (answered_calls calls answers) log after left

-- an operator made these calls of a deck with no recording open, and left it so: a stop was added exactly where they left one open
pub record Operates (room : ℕ) (before : Tape) (calls : List Call) (o : Operated) (after : Tape) : Type 0 where
  pub last : Tape
  pub left : DeckState
  pub calls_made : CallsMade room before calls (vec_items o.answers) last left
  pub left_open : is_some o.closing ≡ is_open left
  pub log : List CopyAt
  pub made : Made room before deck_idle (calls_by calls o) log after deck_idle
