use Rattle.std.proofs.Common.{take}
use Rattle.qic24.specs.Copy.{coded}
use Rattle.qic24.specs.Pens.{Writes}
use Rattle.qic24.proofs.pen.Pen.bytes.Given as goal

abbrev pub invariant-loop-byte : goal.invariant-loop-byte
invariant-loop-byte l = Writes l.initial.self l.self (coded (take l.byte-index l.bytes))
