use Rattle.std.proofs.Common.{◌∙◌, arith}
use Rattle.qic24.specs.Copy.{held}
use Rattle.replay.proofs.Seeks.{opening_within, sound-copy, sound-noted, unsound_fewer, unsound-copy, unsound-noted}
use Rattle.replay.proofs.copies.copy_from.Goals as goal

pub returns-in-Ok : goal.returns-in-Ok
returns-in-Ok g c =
    let s = g.C.Reading.cells c.args.cartridge.now in
    let l = c.loop-place in
    record {
      copy = sound-copy s l.from c.in-Some.place c.in-Some.ensures (held c.in-Ok.item) c.in-Ok.ensures ∙ l.invariant.0;
      noted = sound-noted s l.from c.in-Some.place c.in-Some.ensures (held c.in-Ok.item) c.in-Ok.ensures l.unsound ∙ l.invariant.1;
    }

pub overflow_add-at : goal.overflow_add-at
overflow_add-at g c =
    let s = c.args.cartridge.now in
    omega (arith, opening_within (g.C.Reading.cells s) c.loop-place.from c.in-Some.place c.in-Some.ensures, g.met.C.Reading.inside s c.in-Some.place.on, g.met.C.Reading.small s)

pub loop-place-smaller : goal.loop-place-smaller
loop-place-smaller g c = unsound_fewer (g.C.Reading.cells c.args.cartridge.now) c.loop-place.from c.in-Some.place c.in-Some.ensures c.in-Err.opening c.in-Err.ensures

pub loop-place-preserved : goal.loop-place-preserved
loop-place-preserved g c =
    let s = g.C.Reading.cells c.args.cartridge.now in
    let l = c.loop-place in (
      unsound-copy s l.from c.in-Some.place c.in-Some.ensures c.in-Err.opening c.in-Err.ensures ∙ l.invariant.0,
      unsound-noted s l.from c.in-Some.place c.in-Some.ensures c.in-Err.opening c.in-Err.ensures l.unsound ∙ l.invariant.1,
    )
