-- What the answer of writing an item tells.
use Rattle.std.proofs.Common.{◌≡◌, ℕ, Bool, true, false, Ok, Err, Result, refl, ap, subst, arith}
use Rattle.qic24.specs.Copy.{Numbered}
use Rattle.deck.specs.LastCopies.{came_out}
use Rattle.deck.specs.declared.failed.FailedItem.{FailedItem}

pub came_good : (N : Numbered) (b : Bool) (u : Unit {0}) → Ok u ≡ came_out N b → b ≡ true
came_good N true u e = refl
came_good N false u e = let z : ◌≡◌ {A = ℕ} 0 1 = cc in absurd (omega arith)

pub came_failed : (N : Numbered) (b : Bool) (x : FailedItem) → Err x ≡ came_out N b → (b ≡ false) × (x.number ≡ N.number)
came_failed N true x e = let z : ◌≡◌ {A = ℕ} 0 1 = cc in absurd (omega arith)
came_failed N false x e = let q : x ≡ record { number = N.number } = cc in (refl, ap (λ (y : FailedItem). y.number) q)

-- the answer, by what the check is known to be
pub came_by : (N : Numbered) (r : Result (Unit {0}) FailedItem) (a b : Bool) → r ≡ came_out N a → a ≡ b → r ≡ came_out N b
came_by N r a b e f = subst (λ (z : Bool). r ≡ came_out N z) f e
