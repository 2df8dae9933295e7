use Rattle.std.proofs.Common.{ℕ, Ok, get_or, ap, ◌∙◌}
use Rattle.packed.proofs.PackedTapes.{stored_length, stored_nowhere}
use Rattle.packed.proofs.packed.store.PackedStoreReading.length.Goals as goal

pub returns-then-at-self : goal.returns-then-at-self
returns-then-at-self c = stored_nowhere c.args.self.now c.args.at c.if-at-self.true

pub returns : goal.returns
returns c = ap (λ (t : ℕ). Ok (get_or c.args.self.now.used t 0)) c.from.ensures ∙ stored_length c.args.self.now c.args.at c.if-at-self.false
