-- A head that stays stays over two steps.
use Rattle.std.proofs.Common.{refl, ◌∙◌}
use Rattle.deck.specs.Heads.{Stays}
use Rattle.deck.specs.declared.head.Head.{Head}

pub stays_here : {S : Type 0} {g : _} (a : Head S g) → Stays a a
stays_here a = record { same = refl; on = refl }

pub stays_more : {S : Type 0} {g : _} (a b c : Head S g) → Stays a b → Stays b c → Stays a c
stays_more a b c p q = record { same = q.same ∙ p.same; on = q.on ∙ p.on }
