-- The last copy on a tape, and how many writings of its item failed, by the tape before a step and the tape after.
use Rattle.std.specs.Prelude.{ℕ, ◌-◌, Bool, cond, Ok, Err, Result}
use Rattle.qic24.specs.Copy.{Numbered}
use Rattle.tape.specs.Tape.{Tape}
use Rattle.replay.specs.Copies.{place_on, CopyAt, placed}
use Rattle.replay.specs.Scan.{stands}
use Rattle.deck.specs.Measures.{copy_tail}
use Rattle.deck.specs.Deck.{end_track, end_place, alone_failures, pair_failures}
use Rattle.deck.specs.declared.failed.FailedItem.{FailedItem}

-- the item N as the last copy on the tape, with its postamble after it
abbrev pub last_copy : Tape → Numbered → CopyAt
last_copy c N = placed (place_on (end_track c) (end_place c - copy_tail)) N

-- how many writings of N failed, by the tape after: where another item is written with it, and where it is written alone
abbrev pub failed_with : ℕ → Tape → Tape → Numbered → ℕ
failed_with room before after N = pair_failures room before (stands after) (last_copy before N)

abbrev pub failed_alone : ℕ → Tape → Tape → Numbered → ℕ
failed_alone room before after N = alone_failures room before (stands after) (last_copy before N)

-- what writing N is answered, by whether it came out good
abbrev pub came_out : Numbered → Bool → Result (Unit {0}) FailedItem
came_out N good = cond good (Ok tt) (Err (record { number = N.number }))
