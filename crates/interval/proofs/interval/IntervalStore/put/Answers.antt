use Rattle.std.proofs.Common.{◌≡◌, ℕ, ◌++◌, List, [], map, sym, refl, ap, ◌∙◌, subst, arith}
use Rattle.std.proofs.lemmas.List.{append-nil, append_assoc, length-append, map-append, nil_from_length}
use borrow.Author.Tests.{eqb-true}
use Rattle.tape.specs.Tape.{run, cell}
use Rattle.tape.specs.Stores.{Unspoiled}
use Rattle.interval.specs.IntervalStores.{interval_store_tape}
use Rattle.interval.specs.IntervalLaws.{store_length}
use Rattle.interval.proofs.Unspoiling.{unspoiled_none, unspoiled_then}
use Rattle.interval.proofs.interval.IntervalStore.put.Goals as goal

pub loop-left-init : goal.loop-left-init
loop-left-init c = record {
  put = [];
  parts = refl;
  takes = (unspoiled_none c.args.at (interval_store_tape c.args.self.now) (omega (arith, store_length c.args.self.now, c.requires.there)), refl);
  longer = omega arith;
  sizes = refl;
}

pub loop-left-preserved : goal.loop-left-preserved
loop-left-preserved c =
    let i = c.loop-left.invariant in
    let part = c.split_at.result.0.now in
    let rest = c.split_at.result.1.now in
    let then = c.put_part.ensures in
    record {
      put = i.put ++ part;
      parts = i.parts ∙ ap (λ (x : List ℕ). i.put ++ x) c.split_at.ensures.by_index.0 ∙ sym (append_assoc i.put part rest);
      takes = (
        subst (λ (xs : List ℕ). Unspoiled (run c.args.at xs) (interval_store_tape c.args.self.now) (interval_store_tape c.put_part.new.self))
            (sym (map-append cell i.put part)) (unspoiled_then c.args.at (map cell i.put) (map cell part) _ _ _ i.takes.0 then.takes.0),
        then.takes.1 ∙ i.takes.1,
      );
      longer = omega (arith, length-append i.put part, i.longer, then.longer);
      sizes = then.sizes ∙ i.sizes;
    }

pub returns : goal.returns
returns c =
    let i = c.loop-left.invariant in
    let all : c.args.sent.now ≡ i.put = i.parts ∙ ap (λ (x : List ℕ). i.put ++ x) (nil_from_length c.loop-left.left.now (eqb-true _ _ (sym c.is_empty.ensures ∙ c.loop-left-test.false))) ∙ append-nil i.put in
    (subst (λ (xs : List ℕ). Unspoiled (run c.args.at (map cell xs)) (interval_store_tape c.args.self.now) (interval_store_tape c.loop-left.self)) (sym all) i.takes.0, i.takes.1)
