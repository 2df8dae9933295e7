-- The head of a recording: where it stays, and what it needs there.
use Rattle.std.specs.Prelude.{◌≡◌, ℕ, ◌+◌, ◌≤◌}
use Rattle.tape.specs.Tape.{Tape}
use Rattle.deck.specs.Deck.{end_track, end_place}
use Rattle.deck.specs.declared.head.Head.{Head}

-- it is over the same cartridge, on the same track
pub record Stays {S : Type 0} {g : _} (before after : Head S g) : Type 0 where
  pub same : after.cartridge.ghost_name ≡ before.cartridge.ghost_name
  pub on : after.on ≡ before.on

-- a track is the one where the recording goes on, with so many cells left
pub record EndsWith (left room : ℕ) (c : Tape) (on : ℕ) : Type 0 where
  pub ends : on ≡ end_track c
  pub fits : left + end_place c ≤ room
