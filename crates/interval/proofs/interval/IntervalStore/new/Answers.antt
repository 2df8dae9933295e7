use Rattle.std.proofs.Common.{◌≡◌, cond, vec_len, arith, ◌∙◌, rules}
use Rattle.std.proofs.lemmas.Grind.{common_steps}
use Rattle.interval.specs.Intervals.{no_track}
use Rattle.interval.specs.Marks.{mark_of}
use Rattle.interval.specs.IntervalStores.{interval_fits, interval_store_tape, interval_store_takes}
use Rattle.interval.proofs.IntervalTapes.{interval_blank, stands_none, noted_none}
use Rattle.tape.proofs.Promised.{reads_back}
use Rattle.interval.proofs.Copies.{replicate_at}
use Rattle.interval.proofs.interval.IntervalStore.new.Goals as goal

pub invariant_of-store-clause-rule : goal.invariant_of-store-clause-rule
invariant_of-store-clause-rule c t = stands_none _ _ _ (replicate_at 9 t c.none.result no_track c.none.ensures)

pub invariant_of-store-clause-noted : goal.invariant_of-store-clause-noted
invariant_of-store-clause-noted c t = noted_none _ _ _ _ _ t (replicate_at 9 t c.none.result no_track c.none.ensures) c.new.ensures.used c.new.ensures.zeros

pub invariant_of-store-clause-held : goal.invariant_of-store-clause-held
invariant_of-store-clause-held c t k h = omega (arith, c.new.ensures.used (mark_of t k))

pub returns-clause-cells : goal.returns-clause-cells
returns-clause-cells c =
    let sizes = c.for_store-answer.result.0 in
    let tracks : sizes.tracks ≡ cond (interval_fits c.args.tracks c.args.capacity (vec_len c.args.memory)) c.args.tracks 0 = search rules in
    interval_blank c.args.memory.items sizes.tracks sizes.capacity _ (λ t. replicate_at 9 t c.none.result no_track c.none.ensures) ∙ grind (arith, common_steps)

pub returns-clause-back : goal.returns-clause-back
returns-clause-back c = reads_back interval_store_tape interval_store_takes (λ s r e k. k.0)
