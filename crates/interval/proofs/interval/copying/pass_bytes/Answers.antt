use Rattle.std.proofs.Common.{sym, ◌∙◌, arith}
use Rattle.std.specs.Slice.Iter.{chunks_exact_rest}
use Rattle.interval.proofs.GapReads.{part_passed}
use Rattle.interval.proofs.interval.copying.pass_bytes.Goals as goal

pub loop-stretch-preserved : goal.loop-stretch-preserved
loop-stretch-preserved c =
    let i = c.loop-stretch.invariant in
    let s = c.in-Some.ensures.steps in
    let part = part_passed c.args.bytes.now c.in-Some.stretch.now (chunks_exact_rest c.next.new.self) c.loop-stretch.passed 256 i.within (sym i.rest ∙ s.1.0) (s.1.1 ∙ i.size) in
    record {
      rest = part.rest_is;
      size = s.0 ∙ i.size;
      within = part.within;
      counted = omega (arith, i.counted, part.cells);
      before = omega (arith, i.before);
    }
