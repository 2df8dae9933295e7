use Rattle.qic24.specs.Copy.{held}
use Rattle.deck.specs.Heads.{Stays}
use Rattle.deck.proofs.Media.{Medium}
use Rattle.deck.proofs.PairWritings.{PairsSince}
use Rattle.deck.proofs.head.Head.follow.Given as goal

abbrev pub medium : (g : goal.Over) → Medium g.row.C.Denot
medium g = record { cells = g.C.Reading.cells; room = g.C.Reading.room; takes = g.C.Reading.takes; few = g.met.C.Reading.few; binary = g.met.C.Reading.binary; grows = g.met.C.Reading.grows; keeps = g.met.C.Reading.keeps }

abbrev pub invariant-loop-writing : goal.invariant-loop-writing
invariant-loop-writing g l =
    Stays l.initial.self l.self × PairsSince (medium g) (held l.pending) (held l.new) l.initial.self.on l._writing l.initial.self.cartridge.now l.self.cartridge.now
