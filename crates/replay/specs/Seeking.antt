-- What next answers, and the replay that it makes from a rewind on.
use Rattle.std.specs.Prelude.{ℕ, zero, suc, ◌+◌, Bool, true, false, cond, List, [], ◌∷◌, ◌++◌, Some, None, Ok, Err, Option, ◌==◌, nat_lt}
use Rattle.qic24.specs.Cells.{fold}
use Rattle.qic24.specs.Copy.{Numbered}
use Rattle.tape.specs.Tape.{Tape}
use Rattle.replay.specs.Copies.{body_cells, place_on, CopyAt, placed}
use Rattle.replay.specs.Replay.{ReplayState, expecting, not_located, advance, rewound, UnsoundOpening, UnlocatedNumber, ReplayProgress}
use Rattle.replay.specs.Scan.{OpeningAt, openings_from, tape_start}
-- where a replay goes on, and the number that it expects there
pub use Rattle.replay.specs.declared.cursor.ReplayCursor.{ReplayCursor}

-- what next finds: the expected item and where it stands; the end, and whether the number after the expected one was passed over; or a number beyond
pub data FindResult : Type 0 where
  found_item : CopyAt → FindResult
  found_end : Bool → FindResult
  found_beyond : UnlocatedNumber → FindResult

-- what is found among openings when n is expected. `passed` tells whether n + 1 was passed over so far, and u is the last unsound opening so far
abbrev pub seek : ℕ → Bool → Option UnsoundOpening → List OpeningAt → FindResult
seek n passed u [] = found_end passed
seek n passed u (o ∷ os) = elim o.reads [
  | Err e ↦ seek n passed (Some (record { place = o.place; cause = e })) os
  | Ok i ↦
      cond (nat_lt i.number n) (seek n passed u os)
      (cond (i.number == n) (found_item (placed o.place i))
      (cond (i.number == suc n) (seek n true u os) (found_beyond (record { expected = n; found = o.place; unsound = u }))))
]

-- number 1, at the start of track 0
abbrev pub rewound_cursor : ReplayCursor
rewound_cursor = record { expected = 1; from = tape_start }

-- what next finds on a tape
abbrev pub next_found : Tape → ReplayCursor → FindResult
next_found c k = seek k.expected false None (openings_from c k.from)

-- the cursor moves past an item that is handed out; the end and a number beyond leave it, and so are found again
abbrev pub cursor_after : ReplayCursor → FindResult → ReplayCursor
cursor_after k (found_item f) = record { expected = suc k.expected; from = place_on f.place.on (f.place.at + body_cells) }
cursor_after k (found_end passed) = k
cursor_after k (found_beyond w) = k

-- the copy that is handed out
abbrev pub hands_out : ReplayState → CopyAt → Bool
hands_out (expecting out n passed) f = f.item.number == n
hands_out (not_located out n p) f = false

-- the last unsound opening after one more; a replay that has ended looks no further
abbrev pub unsound_after : ReplayState → Option UnsoundOpening → UnsoundOpening → Option UnsoundOpening
unsound_after (expecting out n passed) u w = Some w
unsound_after (not_located out n p) u w = u

-- a replay takes the next opening. The last unsound one is forgotten where an item is handed out
abbrev pub take_opening : ReplayProgress → OpeningAt → ReplayProgress
take_opening r o = elim o.reads [
  | Err e ↦ record { state = r.state; unsound = unsound_after r.state r.unsound (record { place = o.place; cause = e }) }
  | Ok i ↦ record { state = advance r.state (placed o.place i); unsound = cond (hands_out r.state (placed o.place i)) None r.unsound }
]

-- nothing is taken yet
abbrev pub replay_start : ReplayProgress
replay_start = record { state = rewound; unsound = None }

-- the replay of a tape
unfoldable pub tape_replay : Tape → ReplayProgress
tape_replay c = fold take_opening replay_start (openings_from c tape_start)

-- how a replay ends
abbrev pub ending : ReplayState → Option UnsoundOpening → FindResult
ending (expecting out n passed) u = found_end passed
ending (not_located out n p) u = found_beyond (record { expected = n; found = p; unsound = u })

-- the cursor after k calls of next from a rewind
abbrev pub cursor_at : Tape → ℕ → ReplayCursor
cursor_at c zero = rewound_cursor
cursor_at c (suc k) = cursor_after (cursor_at c k) (next_found c (cursor_at c k))

-- the item that was handed out
abbrev pub item_found : FindResult → List Numbered
item_found (found_item f) = f.item ∷ []
item_found (found_end passed) = []
item_found (found_beyond w) = []

-- what the first k calls of next from a rewind hand out
abbrev pub handed_out : Tape → ℕ → List Numbered
handed_out c zero = []
handed_out c (suc k) = handed_out c k ++ item_found (next_found c (cursor_at c k))
