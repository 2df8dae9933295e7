use Rattle.std.proofs.Common.{◌≤◌, length}
use Rattle.compare.proofs.records.Records.block.Given as goal

abbrev pub invariant-loop-byte : goal.invariant-loop-byte
invariant-loop-byte l = length l.self.left.now ≤ length l.initial.self.left.now
