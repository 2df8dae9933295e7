-- How a replay comes to its end: each item that is handed out leaves fewer openings on the tape.
use Rattle.std.specs.Prelude.{ℕ, ◌<◌, length, Ok, Err, Result}
use Rattle.tape.specs.Tape.{Tape}
use Rattle.replay.specs.Scan.{openings_from}
use Rattle.replay.specs.declared.cursor.ReplayCursor.{ReplayCursor}
use Rattle.deck.specs.declared.next.Next.{Next}
use Rattle.deck.specs.declared.next.Next.TheVariants.{Block, Mark, End}
use Rattle.deck.specs.declared.refusal.Refusal.{Refusal}

-- how many openings are left from a cursor on
abbrev pub openings_left : Tape → ReplayCursor → ℕ
openings_left c k = length (openings_from c k.from)

-- fewer are left after an item than before it
abbrev pub Advances : Result Next Refusal → ℕ → ℕ → Type 0
Advances (Ok (Block n)) before after = after < before
Advances (Ok (Mark n)) before after = after < before
Advances (Ok (End passed)) before after = Unit {0}
Advances (Err e) before after = Unit {0}
