use Rattle.replay.specs.Copies.{OfCartridge}
use Rattle.deck.specs.State.{deck_state}
use Rattle.operator.proofs.NextItems.{next_advanced}
use Rattle.operator.proofs.operating.Operator.next.Goals as goal

pub returns-clause-advances : goal.returns-clause-advances
returns-clause-advances g c =
    let d = c.args.self.now.deck in
    let s = g.C.Reading.cells d.cartridge in
    let h : OfCartridge s = record { few = g.met.C.Reading.few d.cartridge; binary = g.met.C.Reading.binary d.cartridge } in
    let advanced = next_advanced s h d.cursor c.args.block.now (deck_state d.session) in
    rw (c.next.ensures.answer, c.next.ensures.deck) advanced
