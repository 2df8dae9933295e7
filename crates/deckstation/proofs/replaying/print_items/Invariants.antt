use Rattle.std.proofs.Common.{◌≡◌, length}
use Rattle.operator.specs.Advancing.{openings_left}
use Rattle.deckstation.proofs.replaying.print_items.Given as goal

abbrev pub invariant-loop-number : goal.invariant-loop-number
invariant-loop-number g l = (l.operator.deck.session ≡ l.initial.operator.deck.session) × (length l.block ≡ 512)

abbrev pub decreases-loop-number : goal.decreases-loop-number
decreases-loop-number g l = openings_left (g.C.Reading.cells l.operator.deck.cartridge) l.operator.deck.cursor
