use Rattle.std.proofs.Common.{length}
use Rattle.compare.proofs.run.Given as goal

abbrev pub decreases-loop-record : goal.decreases-loop-record
decreases-loop-record l = length l.records.left.now
