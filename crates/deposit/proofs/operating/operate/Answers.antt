use Rattle.std.proofs.Common.{refl}
use Rattle.deck.specs.State.{deck_state}
use Rattle.deck.proofs.Media.{Medium}
use Rattle.deposit.specs.declared.call.Operated.{Operated}
use Rattle.deposit.proofs.JoinedCalls.{operated}
use Rattle.deposit.proofs.operating.operate.Given as given
use Rattle.deposit.proofs.operating.operate.Goals as goal

medium : (g : given.Over) → Medium g.row.C.Denot
medium g = record { cells = g.C.Reading.cells; room = g.C.Reading.room; takes = g.C.Reading.takes; few = g.met.C.Reading.few; binary = g.met.C.Reading.binary; grows = g.met.C.Reading.grows; keeps = g.met.C.Reading.keeps }

pub returns : goal.returns
unfolding medium
returns g c =
    let start = c.args.cartridge in
    let made = c.new-operator.result.deck.cartridge in
    let last = c.make_calls.new.operator.deck in
    let o : Operated = record { answers = c.make_calls.new.answers; closing = c.finish-cartridge.result.1 } in
    let h = c.finish-cartridge.ensures in
    let (done, same) = operated (medium g) made last.cartridge c.finish-cartridge.result.0 c.args.calls.now o (deck_state last.session) c.make_calls.ensures.same c.make_calls.ensures.made c.finish-cartridge.result.1 refl h.stopped h.had h.same in
    record { made = rw (← c.new-operator.ensures.cartridge) done; same = rw (← c.new-operator.ensures.cartridge) same }
