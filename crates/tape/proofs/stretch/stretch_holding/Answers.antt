use Rattle.std.proofs.Common.{◌<◌, ◌≤◌, arith, below_more}
use Rattle.std.proofs.lemmas.List.Elements.{at_read}
use Rattle.tape.specs.Stretches.{Holds}
use Rattle.tape.proofs.Searching.{stopped, passed-all}
use Rattle.tape.proofs.stretch.stretch_holding.Goals as goal

pub loop-i-preserved : goal.loop-i-preserved
loop-i-preserved g c =
    let m = g.S.Stretch in
    let q = c.in_ok-into.ensures in
    below_more _ _ c.loop-i.invariant
    (at_read c.args.stretches.now (λ s. (Holds (m.first s) (m.extent s) c.args.number → ⊥) × (m.first s ≤ c.args.number)) c.loop-i.i c.index-stretches-i.result c.loop-i-test.true c.index-stretches-i.is
    (λ h. omega (arith, h.1, q.0, q.1), omega (arith, q.0)))

pub returns-in_err-into : goal.returns-in_err-into
returns-in_err-into g c =
    let m = g.S.Stretch in
    rw c.from_residual.ensures (stopped m.first m.extent c.args.stretches.now c.args.number c.loop-i.i c.index-stretches-i.result c.loop-i.invariant
    (at_read c.args.stretches.now (λ s. c.args.number < m.first s) c.loop-i.i c.index-stretches-i.result c.loop-i-test.true c.index-stretches-i.is (omega (arith, c.in_err-into.ensures))))

pub returns-then-into-extent : goal.returns-then-into-extent
returns-then-into-extent g c =
    let m = g.S.Stretch in
    let q = c.in_ok-into.ensures in
    record {
      inside = c.loop-i-test.true;
      holds = at_read c.args.stretches.now (λ s. Holds (m.first s) (m.extent s) c.args.number) c.loop-i.i c.index-stretches-i.result c.loop-i-test.true c.index-stretches-i.is (omega (arith, q.0), omega (arith, q.0, q.1));
      before = c.loop-i.invariant;
    }

pub returns : goal.returns
returns g c = passed-all g.S.Stretch.first g.S.Stretch.extent c.args.stretches.now c.args.number c.loop-i.i c.loop-i-test.false c.loop-i.invariant
