use Rattle.std.proofs.Common.{◌≤◌, length}
use Rattle.compare.proofs.decks.perform_all.Given as goal

abbrev pub invariant-loop-call : goal.invariant-loop-call
invariant-loop-call g l = length l.records.left.now ≤ length l.initial.records.left.now

abbrev pub decreases-loop-call : goal.decreases-loop-call
decreases-loop-call g l = length l.records.left.now
