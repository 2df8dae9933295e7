-- What the contract of a recording call says.
use Rattle.std.specs.Prelude.{◌≡◌, ℕ}
use Rattle.tape.specs.Tape.{Tape, Run, Sends}
use Rattle.deck.specs.Calls.{DeckCall, DeckAnswer}
use Rattle.deck.specs.Deck.{DeckState, CallOutcome}
use Rattle.deck.specs.CallsMade.{outcome}

-- a call had this outcome: it was so answered, sent the runs in order to the medium, and left the deck so
pub record Had {S : Type 0} (takes : S → Run → S → Type 0) (before after : S) (state : DeckState) (answer : DeckAnswer) (o : CallOutcome) : Type 0 where
  pub answers : answer ≡ o.answer
  pub sends : Sends takes before o.runs after
  pub leaves : state ≡ o.state

-- a call of a deck had the outcome that its definition gives, by the cells before it and after it
abbrev pub CallHad : {S : Type 0} → (S → ℕ) → (S → Tape) → (S → Run → S → Type 0) → S → S → DeckState → DeckState → DeckCall → DeckAnswer → Type 0
CallHad room cells takes before after s t call answer = Had takes before after t answer (outcome (room before) (cells before) (cells after) s call)
