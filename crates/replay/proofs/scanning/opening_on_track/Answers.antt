use Rattle.std.proofs.Common.{length, Some, None, arith}
use Rattle.tape.specs.Tape.{track}
use Rattle.replay.proofs.Windows.{found_in_part, window_found, window_none, window_end}
use Rattle.replay.proofs.scanning.opening_on_track.Goals as goal

pub loop-at-init : goal.loop-at-init
loop-at-init g c = (omega arith, λ q a b o. omega (arith, o.0))

pub returns-in-Some : goal.returns-in-Some
returns-in-Some g c =
    let s = c.args.cartridge.now in
    let t = track (g.C.Reading.cells s) c.args.from.on in
    window_found t c.args.from.at c.loop-at.at c.loop-at.invariant.1 c.in-Some.found c.loop-at.invariant.0
    (found_in_part t c.read_part-part.result.now c.loop-at.at (length c.loop-at.window) 512 (Some c.in-Some.found) (g.met.C.Reading.binary s c.args.from.on) c.loop-at-test.array_long c.read_part-part.ensures c.in-Some.ensures.first)

pub loop-at-preserved : goal.loop-at-preserved
loop-at-preserved g c =
    let s = c.args.cartridge.now in
    let t = track (g.C.Reading.cells s) c.args.from.on in (
      omega arith,
      window_none t c.args.from.at c.loop-at.at c.loop-at.invariant.1
          (found_in_part t c.read_part-part.result.now c.loop-at.at (length c.loop-at.window) 512 None (g.met.C.Reading.binary s c.args.from.on) c.loop-at-test.array_long c.read_part-part.ensures c.in_default.ensures.first),
    )

pub returns : goal.returns
returns g c =
    window_end (track (g.C.Reading.cells c.args.cartridge.now) c.args.from.on) c.args.from.at c.loop-at.at c.loop-at.invariant.1 (omega arith)
