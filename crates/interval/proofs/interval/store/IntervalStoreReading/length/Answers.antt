use Rattle.std.proofs.Common.{Ok, ap, ◌∙◌, sym, arith}
use Rattle.std.proofs.lemmas.Bool.{cond-true, cond-false, lt-ltb, le-ltb}
use Rattle.interval.proofs.IntervalTapes.{store_track_length}
use Rattle.interval.specs.IntervalLaws.{store_length}
use Rattle.interval.proofs.interval.store.IntervalStoreReading.length.Goals as goal

pub returns-then-at-self : goal.returns-then-at-self
returns-then-at-self c = sym (cond-false _ _ _ (le-ltb c.args.at _ (omega (arith, store_length c.args.self.now))))

pub returns : goal.returns
returns c =
    let s = c.args.self.now in
    ap Ok (ap (λ x. x.cells) c.state.ensures ∙ sym (store_track_length s c.args.at c.if-at-self.false)) ∙ sym (cond-true _ _ _ (lt-ltb c.args.at _ (omega (arith, store_length s))))
