use Rattle.std.proofs.Common.{[], sym, subst, arith}
use Rattle.std.proofs.lemmas.Result.{err_from_is_err_and}
use Rattle.qic24.specs.Copy.{held}
use Rattle.replay.specs.Copies.{OfCartridge, placed}
use Rattle.replay.proofs.Counts.{GoesOnAt, finds-item, moves-item, finds-end, item_goes, item_fewer, end-number, beyond-number}
use Rattle.replay.proofs.Replaying.{replays_from_start}
use Rattle.replay.proofs.counting.next_number.Goals as goal

pub loop-after-init : goal.loop-after-init
loop-after-init g c =
    let s = g.C.Reading.cells c.args.cartridge.now in
    subst (GoesOnAt s) (sym c.rewound-cursor.ensures) (record { out = []; replays = replays_from_start s; least = omega arith; most = omega arith })

pub returns-in_err-after : goal.returns-in_err-after
returns-in_err-after g c =
    let p = err_from_is_err_and c.from_residual.result c.from_residual.ensures.1 in
    record { answer = rw (p.1, p.2) (beyond-number (g.C.Reading.cells c.args.cartridge.now) c.loop-after.cursor c.in_err-after.field-0.0 c.loop-after.invariant c.in_err-after.ensures.answer); small = rw p.1 tt }

pub loop-after-smaller : goal.loop-after-smaller
loop-after-smaller g c =
    let s = g.C.Reading.cells c.args.cartridge.now in
    let k = c.loop-after.cursor in
    let m = c.in_ok-after.ensures in
    let i = c.in-Item in
    let h : OfCartridge s = record { few = g.met.C.Reading.few c.args.cartridge.now; binary = g.met.C.Reading.binary c.args.cartridge.now } in
    item_fewer s h k i.after (placed i.place (held i.item)) (finds-item s k c.in_ok-after.field-0 m.answer i.place i.item i.after i.is) (moves-item s k c.in_ok-after.field-0 m.answer i.place i.item i.after i.is m.after)

pub loop-after-preserved : goal.loop-after-preserved
loop-after-preserved g c =
    let s = g.C.Reading.cells c.args.cartridge.now in
    let k = c.loop-after.cursor in
    let m = c.in_ok-after.ensures in
    let i = c.in-Item in
    let h : OfCartridge s = record { few = g.met.C.Reading.few c.args.cartridge.now; binary = g.met.C.Reading.binary c.args.cartridge.now } in
    item_goes s h k i.after (placed i.place (held i.item)) (finds-item s k c.in_ok-after.field-0 m.answer i.place i.item i.after i.is) (moves-item s k c.in_ok-after.field-0 m.answer i.place i.item i.after i.is m.after) c.loop-after.invariant

pub returns : goal.returns
returns g c =
    let s = g.C.Reading.cells c.args.cartridge.now in
    let k = c.loop-after.cursor in
    record {
      answer = end-number s k c.in_default.field-0 c.loop-after.invariant (finds-end s k c.in_ok-after.field-0 c.in_ok-after.ensures.answer c.in_default.field-0 c.in_default.is);
      small = (c.loop-after.invariant.least, c.loop-after.invariant.most);
    }
