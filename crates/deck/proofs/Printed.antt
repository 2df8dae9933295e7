-- What is printed of a refusal that names no item.
use Rattle.std.proofs.Common.{◌≡◌, ℕ, [], refl}
use Rattle.replay.specs.declared.unlocated.UnlocatedNumber.{UnlocatedNumber}
use Rattle.deck.specs.Refusals.{item_text}
use Rattle.deck.specs.declared.refusal.Refusal.{Refusal}
use Rattle.deck.specs.declared.refusal.Refusal.TheVariants.{WrongSize, CapacityTooSmall, MediaEnd, NumbersUsedUp, Unwritable, NotRecording, StillRecording, Unlocated}

pub none-named : (e : Refusal) → ((n : ℕ) → e ≡ Unwritable n → ⊥) → ((w : UnlocatedNumber) → e ≡ Unlocated w → ⊥) → item_text e ≡ []
none-named WrongSize h k = refl
none-named CapacityTooSmall h k = refl
none-named MediaEnd h k = refl
none-named NumbersUsedUp h k = refl
none-named (Unwritable n) h k = absurd (h n refl)
none-named NotRecording h k = refl
none-named StillRecording h k = refl
none-named (Unlocated w) h k = absurd (k w refl)
