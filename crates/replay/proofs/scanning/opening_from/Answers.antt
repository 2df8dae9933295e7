use Rattle.std.proofs.Common.{◌≡◌, ℕ, suc, ◌+◌, sym, ap, ◌∙◌, arith}
use Rattle.replay.specs.Answered.{first_place}
use Rattle.replay.specs.Copies.{place_on}
use Rattle.replay.specs.Scan.{openings_from}
use Rattle.replay.proofs.TapeOpenings.{from_open, from_skip, from_next, from_past}
use Rattle.replay.proofs.scanning.opening_from.Goals as goal

pub returns-in-Some : goal.returns-in-Some
returns-in-Some g c =
    let s = g.C.Reading.cells c.args.cartridge.now in
    let l = c.loop-on in
    let h = c.in-Some.ensures in
    sym (ap first_place (sym l.invariant ∙ (from_skip s l.on l.at c.in-Some.at h.0 h.2 ∙ from_open s l.on c.in-Some.at h.1)))

pub loop-on-preserved : goal.loop-on-preserved
loop-on-preserved g c =
    let s = g.C.Reading.cells c.args.cartridge.now in
    let l = c.loop-on in
    let e : l.on + 1 ≡ suc l.on = omega arith in
    ap (λ (t : ℕ). openings_from s (place_on t 0)) e ∙ (sym (from_next s l.on l.at c.in_default.ensures) ∙ l.invariant)

pub returns : goal.returns
returns g c =
    let l = c.loop-on in
    sym (ap first_place (sym l.invariant ∙ from_past (g.C.Reading.cells c.args.cartridge.now) l.on l.at (omega arith)))
