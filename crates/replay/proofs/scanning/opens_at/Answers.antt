use Rattle.std.proofs.Common.{◌≡◌, ◌+◌, sym, refl, ◌∙◌, arith}
use Rattle.tape.specs.Tape.{track}
use Rattle.replay.proofs.TapeOpenings.{opens_not}
use Rattle.replay.proofs.Windows.{found_in_part, opens_tested}
use Rattle.replay.proofs.scanning.opens_at.Goals as goal

pub returns-in_default : goal.returns-in_default
returns-in_default g c = sym (opens_not (track (g.C.Reading.cells c.args.cartridge.now) c.args.place.on) c.args.place.at (λ o. c.in_default.ensures o.0))

pub returns : goal.returns
returns g c =
    let s = c.args.cartridge.now in
    let t = track (g.C.Reading.cells s) c.args.place.on in
    let e : c.in-Some.start + 14 ≡ c.args.place.at = omega (arith, c.in-Some.ensures) in
    c.is_some.ensures ∙ opens_tested t c.in-Some.start c.args.place.at c.find_opening.result e
    (found_in_part t c.read_part-before.result.now c.in-Some.start 14 14 c.find_opening.result (g.met.C.Reading.binary s c.args.place.on) refl c.read_part-before.ensures c.find_opening.ensures.first)
