use Rattle.tape.proofs.Searching.{Passed}
use Rattle.tape.proofs.stretch.stretch_holding.Given as goal

abbrev pub invariant-loop-i : goal.invariant-loop-i
invariant-loop-i g l = Passed g.S.Stretch.first g.S.Stretch.extent l.stretches l.number l.i
