-- Whether a recording is open, and the end of a deck.
use Rattle.std.specs.Prelude.{ℕ, Bool, true, false, cond, Ok, Err, Result}
use Rattle.deck.specs.Deck.{DeckState, deck_idle, deck_recording}
use Rattle.deck.specs.State.{deck_state}
use Rattle.deck.specs.declared.deck.Deck.{Deck}
use Rattle.deck.specs.declared.obligation.StopRefusal.{StopRefusal}
use Rattle.deck.specs.declared.obligation.StopRefusal.TheVariants.{NotRecording, Unwritable}

abbrev pub is_open : DeckState → Bool
is_open deck_idle = false
is_open (deck_recording s p) = true

-- stop did not hand the obligation back
abbrev pub TakenBack : Result ℕ StopRefusal → Type 0
TakenBack (Ok n) = Unit {0}
TakenBack (Err (NotRecording o)) = ⊥
TakenBack (Err (Unwritable n)) = Unit {0}

-- the cartridge, or the deck where a recording is open
abbrev pub ended : {C : Type 0} → Deck C → Result C (Deck C)
ended d = cond (is_open (deck_state d.session)) (Err d) (Ok d.cartridge)
