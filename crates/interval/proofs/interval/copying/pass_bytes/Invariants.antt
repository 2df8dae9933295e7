use Rattle.std.proofs.Common.{◌≡◌, ◌≤◌, length, take, drop}
use Rattle.std.specs.List.{flat_map}
use Rattle.std.specs.Slice.Iter.{chunks_exact_rest, chunks_exact_size}
use Rattle.interval.specs.Intervals.{gap}
use Rattle.interval.specs.declared.interval.copying.TheConstants.{STRETCH}
use Rattle.interval.proofs.interval.copying.pass_bytes.Given as goal

abbrev pub invariant-loop-stretch : goal.invariant-loop-stretch
invariant-loop-stretch l = record {
  rest : chunks_exact_rest l.stretch-iterator ≡ drop l.passed l.bytes;
  size : chunks_exact_size l.stretch-iterator ≡ STRETCH;
  within : l.passed ≤ length l.bytes;
  counted : l.cells ≡ length (flat_map gap (take l.passed l.bytes));
  before : l.cells ≤ l.place;
}
