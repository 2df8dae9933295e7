use Rattle.std.proofs.Common.{length, arith}
use Rattle.interval.proofs.GapReads.{set_none, set_one, set_full, set_all, set_past}
use Rattle.interval.proofs.interval.copying.set_ones.Goals as goal
use Rattle.interval.proofs.interval.copying.set_ones.Goals.{then-byte-lt-ZEROS_ALONE, else-byte-lt-ZEROS_ALONE}

pub loop-byte-init : goal.loop-byte-init
loop-byte-init c = set_none c.args.bytes.now c.args.place _ (length c.args.out.now) c.args.out.now c.requires.zeros

pub loop-byte-preserved : goal.loop-byte-preserved
loop-byte-preserved c = elim c.if-byte-lt-ZEROS_ALONE.branch [
  | then-byte-lt-ZEROS_ALONE w ↦ rw (w.begin-is, w.out-is, c.from.ensures) (set_one _ _ _ _ _ _ c.loop-byte.invariant w.set_one.new.out c.loop-byte-test.true w.if-byte-lt-ZEROS_ALONE.true (omega arith) (rw c.from.ensures at w.set_one.ensures))
  | else-byte-lt-ZEROS_ALONE w ↦ rw (w.begin-is, w.out-is, c.from.ensures) (set_full _ _ _ _ _ _ c.loop-byte.invariant c.loop-byte-test.true (omega (arith, c.type_inv.bytes c.loop-byte.byte-index)))
]

pub returns-after-loop-byte : goal.returns-after-loop-byte
returns-after-loop-byte c k h = set_all _ _ _ _ _ _ c.loop-byte.invariant c.loop-byte-test.false k (omega arith)

pub returns-then-one-end : goal.returns-then-one-end
returns-then-one-end c k h = set_past _ _ _ _ _ _ c.loop-byte.invariant c.loop-byte-test.true (omega (arith, c.type_inv.bytes c.loop-byte.byte-index)) (omega arith) k (omega arith)
