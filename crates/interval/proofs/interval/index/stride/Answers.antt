use Rattle.std.proofs.Common.{rules}
use Rattle.interval.specs.Marks.{mark_stride}
use Rattle.interval.proofs.interval.index.stride.Goals as goal

pub returns : goal.returns
unfolding mark_stride
returns c = search rules
