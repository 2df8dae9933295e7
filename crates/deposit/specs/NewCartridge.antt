-- A new cartridge that spoils nothing replays what was recorded, and no false copy has to be ruled out.
use Rattle.std.specs.Prelude.{◌≡◌, ℕ, suc, ◌≤◌, Bool, List, length}
use Rattle.tape.specs.Tape.{Tape, most_tracks, blank}
use Rattle.replay.specs.Copies.{CopyAt}
use Rattle.replay.specs.Replay.{expecting}
use Rattle.replay.specs.Seeking.{tape_replay}
use Rattle.deck.specs.Calls.{AnsweredCall, kept_list}
use Rattle.deck.specs.Deck.{deck_idle}
use Rattle.deck.specs.CallsMade.{Made}
use Rattle.deck.specs.Unspoiled.{NoneSpoiled, AllOfBytes}

-- the replay is the kept list, item by item, then end
abbrev pub ReplaysWhatWasKept : Type 0
ReplaysWhatWasKept =
    (room tracks : ℕ) → tracks ≤ most_tracks → (ds : List AnsweredCall) (log : List CopyAt) (c : Tape) (d : Made room (blank tracks) deck_idle ds log c deck_idle) →
    NoneSpoiled room (blank tracks) deck_idle ds log c deck_idle d → AllOfBytes ds →
    (b : Bool) × ((tape_replay c).state ≡ expecting (kept_list ds) (suc (length (kept_list ds))) b)
