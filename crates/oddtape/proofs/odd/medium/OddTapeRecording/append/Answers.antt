use Rattle.std.proofs.Common.{◌+◌, ◌<◌, ◌≤◌, length, get_or, subst, sym, lit<, arith}
use Rattle.std.proofs.lemmas.Grind.{common_steps}
use Rattle.tape.specs.Tape.{cell}
use Rattle.oddtape.proofs.Thinning.{thinned_more, after_more, length_after, kept_cell, binary_more}
use Rattle.oddtape.proofs.odd.medium.OddTapeRecording.append.Goals as goal

pub push-requires : goal.push-requires
push-requires c =
    let s = c.args.self.now in
    let fits : length s.cells.items + length c.args.sent.now ≤ 512 = grind (arith, common_steps) in
    (lit< tt, omega (arith, fits, length_after s.ones.passed c.loop-byte.byte-index c.args.sent.now s.cells.items c.loop-byte.self.cells.items (omega arith) c.loop-byte.invariant.0))

pub invariant_of-self : goal.invariant_of-self
invariant_of-self c =
    let s = c.args.self.now in
    let fits : length s.cells.items + length c.args.sent.now ≤ 512 = grind (arith, common_steps) in
    record {
      inside = omega (arith, fits, c.push.ensures.len, length_after s.ones.passed c.loop-byte.byte-index c.args.sent.now s.cells.items c.loop-byte.self.cells.items (omega arith) c.loop-byte.invariant.0);
      binary = binary_more c.loop-byte.self.cells.items c.push.new.self.items c.pass-kept.result c.push.ensures.items (subst (λ m. m < 2) (sym c.pass-kept.ensures.kept) (kept_cell c.loop-byte.self.ones.passed (cell (get_or c.args.sent.now c.loop-byte.byte-index 0)))) c.loop-byte.self.binary;
    }

pub loop-byte-preserved : goal.loop-byte-preserved
loop-byte-preserved c =
    let s = c.args.self.now in (
      thinned_more s.ones.passed c.loop-byte.byte-index c.loop-byte.self.ones.passed c.args.sent.now c.loop-byte-test.true c.loop-byte.invariant.1 c.pass-kept.result s.cells.items c.loop-byte.self.cells.items c.push.new.self.items c.pass-kept.ensures.kept c.loop-byte.invariant.0 c.push.ensures.items,
      after_more s.ones.passed c.loop-byte.byte-index c.loop-byte.self.ones.passed c.args.sent.now c.loop-byte-test.true c.loop-byte.invariant.1 c.pass-kept.new.self.passed c.pass-kept.ensures.next,
    )
