use Rattle.std.proofs.Common.{◌+◌, ◌-◌, ◌≤◌, length}
use Rattle.station.proofs.replaying.print_items.Given as goal

abbrev pub invariant-loop-place : goal.invariant-loop-place
invariant-loop-place l = l.from ≤ length l.cells + 1

abbrev pub decreases-loop-place : goal.decreases-loop-place
decreases-loop-place l = length l.cells + 1 - l.from
