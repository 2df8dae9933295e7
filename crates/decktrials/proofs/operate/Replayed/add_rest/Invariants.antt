use Rattle.operator.specs.Advancing.{openings_left}
use Rattle.decktrials.proofs.operate.Replayed.add_rest.Given as goal

abbrev pub decreases-loop-self : goal.decreases-loop-self
decreases-loop-self g l = openings_left (g.C.Reading.cells l.operator.deck.cartridge) l.operator.deck.cursor
