use Rattle.qic24.specs.Pens.{Writes}
use Rattle.qic24.proofs.Binary.{marks}
use Rattle.qic24.proofs.pen.Pen.marks.Given as goal

abbrev pub invariant-loop-mark : goal.invariant-loop-mark
invariant-loop-mark l = Writes l.initial.self l.self (marks l._mark)
