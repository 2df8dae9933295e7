use Rattle.std.proofs.Common.{◌≡◌, ℕ, ◌+◌, ◌++◌, List, map, length}
use Rattle.tape.specs.Tape.{cell, run}
use Rattle.interval.specs.Intervals.{state_of}
use Rattle.interval.specs.IntervalStores.{interval_store_takes}
use Rattle.interval.proofs.interval.IntervalStore.put.Given as goal

abbrev pub invariant-loop-left : goal.invariant-loop-left
invariant-loop-left l = record {
  put : List ℕ;
  parts : l.sent ≡ put ++ l.left;
  takes : interval_store_takes l.initial.self (run l.at (map cell put)) l.self;
  longer : (state_of l.self.states l.at).cells ≡ (state_of l.initial.self.states l.at).cells + length put;
  sizes : l.self.sizes ≡ l.initial.self.sizes;
}

abbrev pub decreases-loop-left : goal.decreases-loop-left
decreases-loop-left l = length l.left
