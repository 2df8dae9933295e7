-- Calls and answers of the program, as the deck's definitions speak of them.
use Rattle.std.specs.Prelude.{ℕ, List, [], ◌∷◌, ◌++◌, Some, None, Ok, Err, vec_items, Option, Result}
use Rattle.deck.specs.Calls.{DeckCall, begin_call, write_call, mark_call, stop_call, DeckAnswer, next_number, kept_total, AnsweredCall}
use Rattle.deck.specs.Refusals.{refused}
use Rattle.deck.specs.declared.refusal.Refusal.{Refusal}
use Rattle.operator.specs.Stopping.{kept_answer}
use Rattle.deposit.specs.declared.call.Call.{Call}
use Rattle.deposit.specs.declared.call.Call.TheVariants.{Begin, Write, Mark, Stop}
use Rattle.deposit.specs.declared.call.Taken.{Taken}
use Rattle.deposit.specs.declared.call.Taken.TheVariants.{Next, Kept}
use Rattle.deposit.specs.declared.call.Operated.{Operated}

abbrev pub call_of : Call → DeckCall
call_of Begin = begin_call
call_of (Write block) = write_call block.now
call_of Mark = mark_call
call_of Stop = stop_call

-- what a call is answered
abbrev pub Answer : Type 0
Answer = Result Taken Refusal

abbrev pub answer_of : Answer → DeckAnswer
answer_of (Ok (Next n)) = next_number n
answer_of (Ok (Kept n)) = kept_total n
answer_of (Err e) = refused e

-- each call with its answer
abbrev pub answered_calls : List Call → List Answer → List AnsweredCall
answered_calls [] more = []
answered_calls (c ∷ cs) [] = []
answered_calls (c ∷ cs) (a ∷ more) = record { call = call_of c; answer = answer_of a } ∷ answered_calls cs more

-- the stop of a recording that was left open
abbrev pub closing_stop : Option (Result ℕ Refusal) → List AnsweredCall
closing_stop None = []
closing_stop (Some a) = record { call = stop_call; answer = kept_answer a } ∷ []

-- all that an operator called
abbrev pub calls_by : List Call → Operated → List AnsweredCall
calls_by cs o = answered_calls cs (vec_items o.answers) ++ closing_stop o.closing
