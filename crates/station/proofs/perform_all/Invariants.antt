use Rattle.std.proofs.Common.{◌≡◌, ◌-◌, length}
use Rattle.station.proofs.perform_all.Given as goal

abbrev pub invariant-loop-command : goal.invariant-loop-command
invariant-loop-command l = l.reader.script.now ≡ l.script

abbrev pub decreases-loop-command : goal.decreases-loop-command
decreases-loop-command l = length l.script - l.reader.place
