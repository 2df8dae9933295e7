use Rattle.std.proofs.Common.{◌≡◌, ◌-◌, ◌≤◌, length, drop}
use Rattle.script.specs.Readouts.{read_out, inspected}
use Rattle.script.proofs.Counts.{counted}
use Rattle.script.proofs.inspection.inspect.Given as goal

abbrev pub invariant-loop-commands : goal.invariant-loop-commands
invariant-loop-commands l =
    (l.reader.script.now ≡ l.script) × (l.commands ≤ l.reader.place)
    × (counted l.commands l.reader.place (read_out (drop l.reader.place l.script)) ≡ inspected (read_out l.script))

abbrev pub decreases-loop-commands : goal.decreases-loop-commands
decreases-loop-commands l = length l.script - l.reader.place
