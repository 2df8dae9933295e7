use Rattle.std.proofs.Common.{ℕ, ap, arith}
use Rattle.std.specs.Int.{div_ceil}
use Rattle.interval.proofs.StrideSteps.{ahead_inside}
use Rattle.interval.proofs.interval.index.mark_ahead.Goals as goal

pub new-requires-clause-some : goal.new-requires-clause-some
new-requires-clause-some c = omega (arith, ap (λ (s : ℕ). div_ceil c.args.place s) c.stride.ensures.value, ahead_inside c.args.capacity c.args.place c.requires.inside)
