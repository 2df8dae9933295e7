use Rattle.std.proofs.Common.{ℕ, false, Some, None, subst}
use Rattle.std.proofs.lemmas.List.{get_or_default}
use Rattle.tape.specs.Stretches.{Answers}
use Rattle.shelf.specs.Lookup.{row_first, row_extent}
use Rattle.shelf.specs.Shelf.{row_of}
use Rattle.shelf.proofs.looking.lookup.Goals as goal

pub returns-in_default : goal.returns-in_default
returns-in_default c = subst (λ (n : ℕ). Answers row_first row_extent c.args.rows.now n None) c.from.ensures c.in_default.ensures

pub returns : goal.returns
returns c =
    let i = c.in-Some.i in
    let s = subst (λ (n : ℕ). Answers row_first row_extent c.args.rows.now n (Some i)) c.from.ensures c.in-Some.ensures in
    (i, s, λ d. get_or_default c.args.rows.now i d (row_of 0 0 false) s.inside)
