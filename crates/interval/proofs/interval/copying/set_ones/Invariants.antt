use Rattle.std.proofs.Common.{length}
use Rattle.interval.proofs.GapReads.{SoFar}
use Rattle.interval.proofs.interval.copying.set_ones.Given as goal

abbrev pub invariant-loop-byte : goal.invariant-loop-byte
invariant-loop-byte l = SoFar l.bytes l.place l.byte-index l.begin (length l.initial.out) l.out
