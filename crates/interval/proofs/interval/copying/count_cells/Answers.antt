use Rattle.std.proofs.Common.{ℕ, ◌+◌, ◌∙◌, min, arith, rules}
use Rattle.std.proofs.lemmas.Iterator.{YieldsList-from_slice, YieldsList-from_map}
use Rattle.std.proofs.lemmas.Iterator.Consumers.{sum_by_from_yields_List}
use Rattle.interval.proofs.GapReads.{count_is}
use Rattle.interval.proofs.interval.copying.count_cells.Goals as goal

pub returns : goal.returns
returns c =
    sum_by_from_yields_List (λ (b : ℕ). min (b + 1) 255) c.args.bytes.now c.map.result c.sum.result c.sum.ensures.ran
    (YieldsList-from_map _ (λ (b : ℕ). min (b + 1) 255) (YieldsList-from_slice c.args.bytes.now cc) c.map.ensures.closure (λ x r q k. search rules))
    ∙ count_is c.args.bytes.now (λ k. omega (arith, c.type_inv.bytes k))
