use Rattle.std.proofs.Common.{suc, true, sym, ap, ◌∙◌, arith}
use Rattle.qic24.specs.Copy.{held}
use Rattle.deck.specs.LastCopies.{came_out}
use Rattle.deck.proofs.CameOut.{came_good}
use Rattle.deck.proofs.ChangedTracks.{next_fit, changed_good}
use Rattle.deck.proofs.Media.{Medium}
use Rattle.deck.proofs.SentCells.{whole_full}
use Rattle.deck.proofs.head.Head.change_track.Given as given
use Rattle.deck.proofs.head.Head.change_track.Goals as goal

abbrev medium : (g : given.Over) → Medium g.row.C.Denot
medium g = record { cells = g.C.Reading.cells; room = g.C.Reading.room; takes = g.C.Reading.takes; few = g.met.C.Reading.few; binary = g.met.C.Reading.binary; grows = g.met.C.Reading.grows; keeps = g.met.C.Reading.keeps }

pub start_next-requires : goal.start_next-requires
start_next-requires g c =
    let N = held c.args.pending.now in
    let e = c.finish.new.self in
    let f = c.in_ok-finish.ensures in
    let w = next_fit (medium g) N (held c.args.new.now) (whole_full N.content c.args.pending.now.whole) c.args.self.now.cartridge.now e.on e.cartridge.now true (f.stays.on ∙ c.requires.left.ends) (omega (arith, f.stays.on, c.requires.next)) c.requires.roomy (record { sent = f.sent; answer = sym (came_good N _ _ f.answer) }) in
    record { next = w.0; fits = w.1 }

pub returns : goal.returns
returns g c =
    let N = held c.args.pending.now in
    let M = held c.args.new.now in
    let s = c.args.self.now in
    let e = c.finish.new.self in
    let last = c.start_next.new.self.cartridge.now in
    let full = whole_full N.content c.args.pending.now.whole in
    let f = c.in_ok-finish.ensures in
    let w = changed_good (medium g) N M full s.cartridge.now s.on (suc e.on) e.cartridge.now last c.requires.left.ends (ap suc f.stays.on) (record { sent = f.sent; answer = sym (came_good N _ _ f.answer) }) c.start_next.ensures.sent in
    record { same = c.start_next.ensures.same ∙ f.stays.same; sent = w.sent; answer = ap (came_out N) w.answer }
