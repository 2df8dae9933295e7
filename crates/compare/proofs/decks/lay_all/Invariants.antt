use Rattle.std.proofs.Common.{◌≤◌, length}
use Rattle.compare.proofs.decks.lay_all.Given as goal

abbrev pub invariant-loop : goal.invariant-loop
invariant-loop g l = length l.records.left.now ≤ length l.initial.records.left.now
