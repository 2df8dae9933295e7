use Rattle.std.proofs.Common.{ℕ, refl, arith}
use Rattle.interval.proofs.Copies.{replicate_at}
use Rattle.interval.proofs.interval.index.Index.new.Goals as goal

pub invariant_of-result-clause-short : goal.invariant_of-result-clause-short
invariant_of-result-clause-short c k = omega (arith, replicate_at {A = ℕ} 4608 k 0 0 refl)

pub returns-clause-used : goal.returns-clause-used
returns-clause-used c k = replicate_at 4608 k 0 0 refl

pub returns-clause-zeros : goal.returns-clause-zeros
returns-clause-zeros c k = replicate_at 4608 k 0 0 refl
