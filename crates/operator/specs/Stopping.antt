-- What an operator's stop answers: the deck's answer, without an obligation that is handed back.
use Rattle.std.specs.Prelude.{ℕ, Ok, Err, Result}
use Rattle.deck.specs.Calls.{DeckAnswer, kept_total}
use Rattle.deck.specs.Refusals.{refused}
use Rattle.deck.specs.declared.refusal.Refusal.{Refusal}

abbrev pub kept_answer : Result ℕ Refusal → DeckAnswer
kept_answer (Ok n) = kept_total n
kept_answer (Err e) = refused e
