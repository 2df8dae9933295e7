use Rattle.std.proofs.Common.{◌≡◌, ◌-◌, length}
use Rattle.deckstation.proofs.running.perform_all.Given as goal

abbrev pub invariant-loop-command : goal.invariant-loop-command
invariant-loop-command g l = l.reader.script.now ≡ l.script

abbrev pub decreases-loop-command : goal.decreases-loop-command
decreases-loop-command g l = length l.script - l.reader.place
