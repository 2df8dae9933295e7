use Rattle.std.proofs.Common.{◌≡◌}
use Rattle.deck.specs.Ending.{is_open}
use Rattle.deck.specs.State.{deck_state}
use Rattle.decktrials.proofs.act.marks.Given as goal

-- a recording that was open stays so
abbrev pub invariant-loop : goal.invariant-loop
invariant-loop g l = is_open (deck_state l.operator.deck.session) ≡ is_open (deck_state l.initial.operator.deck.session)
