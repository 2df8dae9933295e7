use Rattle.std.proofs.Common.{◌≡◌, ◌≤◌, length, take, vec_items, vec_capacity}
use Rattle.deck.specs.State.{deck_state}
use Rattle.deck.proofs.Media.{Medium}
use Rattle.deposit.specs.Operating.{CallsMade}
use Rattle.deposit.proofs.operating.make_calls.Given as goal

abbrev pub medium : (g : goal.Over) → Medium g.row.C.Denot
medium g = record { cells = g.C.Reading.cells; room = g.C.Reading.room; takes = g.C.Reading.takes; few = g.met.C.Reading.few; binary = g.met.C.Reading.binary; grows = g.met.C.Reading.grows; keeps = g.met.C.Reading.keeps }

abbrev pub invariant-loop-call : goal.invariant-loop-call
invariant-loop-call g l =
    CallsMade (g.C.Reading.room l.initial.operator.deck.cartridge) (g.C.Reading.cells l.initial.operator.deck.cartridge) (take l.call-index l.calls) (vec_items l.answers) (g.C.Reading.cells l.operator.deck.cartridge) (deck_state l.operator.deck.session)
    × (g.C.Reading.room l.operator.deck.cartridge ≡ g.C.Reading.room l.initial.operator.deck.cartridge)
    × (length l.calls ≤ vec_capacity l.answers)
