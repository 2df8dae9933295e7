use Rattle.operator.specs.Advancing.{openings_left}
use Rattle.rates.proofs.decks.replay_all.Given as goal

abbrev pub decreases-loop-count : goal.decreases-loop-count
decreases-loop-count g l = openings_left (g.C.Reading.cells l.operator.deck.cartridge) l.operator.deck.cursor
