use Rattle.std.proofs.Common.{ℕ, ◌/◌, ap, arith}
use Rattle.interval.specs.Marks.{mark_stride}
use Rattle.interval.proofs.StrideSteps.{stride_some, behind_at, mark-inside}
use Rattle.interval.proofs.interval.index.mark_behind.Goals as goal

pub new-requires-clause-some : goal.new-requires-clause-some
new-requires-clause-some c =
    let s = mark_stride c.args.capacity in
    let few = mark-inside c.args.capacity (c.args.place / s) (omega (arith, behind_at s (stride_some c.args.capacity) c.args.place)) in
    omega (arith, few, ap (λ (n : ℕ). c.args.place / n) c.stride-stride.ensures.value)
