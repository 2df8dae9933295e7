use Rattle.std.proofs.Common.{map, take}
use Rattle.tape.specs.Tape.{cell}
use Rattle.interval.specs.Gaps.{Spelled}
use Rattle.interval.proofs.interval.adding.add_cells.Given as goal

abbrev pub invariant-loop-one : goal.invariant-loop-one
invariant-loop-one l = Spelled l.initial.fill l.initial.bytes (map cell (take l.one-index l.sent)) l.bytes l.fill
