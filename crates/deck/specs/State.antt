-- What a deck keeps, as its definitions speak of it.
use Rattle.std.specs.Prelude.{Some, None, Option}
use Rattle.deck.specs.Deck.{RecordingNumbers, DeckState, deck_idle, deck_recording}
use Rattle.deck.specs.Phases.{phase_of}
use Rattle.deck.specs.declared.session.Session.{Session}

-- the numbers of a recording
abbrev pub numbers_of : Session → RecordingNumbers
numbers_of s = record { first = s.first; next = s.next }

-- a recording
abbrev pub session_state : Session → DeckState
session_state s = deck_recording (numbers_of s) (phase_of s.phase)

-- a deck, by its recording, if one is open
abbrev pub deck_state : Option Session → DeckState
deck_state None = deck_idle
deck_state (Some s) = session_state s
