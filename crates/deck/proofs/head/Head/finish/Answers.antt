use Rattle.std.proofs.Common.{suc, min, sym, ap, ◌∙◌, arith}
use Rattle.qic24.specs.Copy.{held}
use Rattle.deck.specs.Measures.{more_writings}
use Rattle.deck.specs.LastCopies.{failed_alone, came_out}
use Rattle.deck.proofs.CameOut.{came_good}
use Rattle.deck.proofs.LoneWritings.{lone_fit, finished_good}
use Rattle.deck.proofs.Media.{Medium}
use Rattle.deck.proofs.SentCells.{whole_full}
use Rattle.deck.proofs.StayedHeads.{stays_more}
use Rattle.deck.proofs.head.Head.finish.Given as given
use Rattle.deck.proofs.head.Head.finish.Goals as goal

abbrev medium : (g : given.Over) → Medium g.row.C.Denot
medium g = record { cells = g.C.Reading.cells; room = g.C.Reading.room; takes = g.C.Reading.takes; few = g.met.C.Reading.few; binary = g.met.C.Reading.binary; grows = g.met.C.Reading.grows; keeps = g.met.C.Reading.keeps }

pub send_closing_ones-requires : goal.send_closing_ones-requires
send_closing_ones-requires g c =
    let N = held c.args.pending.now in
    let s = c.args.self.now.cartridge.now in
    let e = c.write_again.new.self in
    let m = failed_alone (g.C.Reading.room s) (g.C.Reading.cells s) (g.C.Reading.cells e.cartridge.now) N in
    let again = c.write_again.ensures in
    omega (arith, lone_fit (medium g) N (whole_full N.content c.args.pending.now.whole) s e.on (min (suc m) more_writings) e.cartridge.now (again.stays.on ∙ c.requires.ends) c.requires.fits (omega arith) again.sent)

pub returns : goal.returns
returns g c =
    let N = held c.args.pending.now in
    let s = c.args.self.now in
    let e = c.write_again.new.self in
    let again = c.in_ok-write_again.ensures in
    let w = finished_good (medium g) N (whole_full N.content c.args.pending.now.whole) s.cartridge.now e.on e.cartridge.now c.send_closing_ones.new.self.cartridge.now (again.stays.on ∙ c.requires.ends) (record { sent = again.sent; answer = sym (came_good N _ _ again.answer) }) c.send_closing_ones.ensures.sent in
    record { stays = stays_more s e c.send_closing_ones.new.self again.stays c.send_closing_ones.ensures.stays; sent = w.sent; answer = ap (came_out N) w.answer }
