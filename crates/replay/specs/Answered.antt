-- What the calls of a replay answer, in the words of the definitions.
use Rattle.std.specs.Prelude.{ℕ, List, [], ◌∷◌, Some, None, Ok, Err, Option, Result}
use Rattle.qic24.specs.Copy.{Numbered, held}
use Rattle.qic24.specs.declared.fault.CopyFault.{CopyFault}
use Rattle.replay.specs.Copies.{TapePlace, CopyAt, placed}
use Rattle.replay.specs.Replay.{ReplayState, expecting, not_located, UnsoundOpening, UnlocatedNumber}
use Rattle.replay.specs.Scan.{OpeningAt}
use Rattle.replay.specs.Seeking.{FindResult, found_item, found_end, found_beyond, ReplayCursor}
use Rattle.replay.specs.declared.found.Found.{Found}
use Rattle.replay.specs.declared.found.Found.TheVariants.{Item, End}

-- where the first of some openings stands
abbrev pub first_place : List OpeningAt → Option TapePlace
first_place [] = None
first_place (o ∷ os) = Some o.place

-- the first sound copy among some openings
abbrev pub first_copy : List OpeningAt → Option CopyAt
first_copy [] = None
first_copy (o ∷ os) = elim o.reads [ Ok i ↦ Some (placed o.place i) | Err e ↦ first_copy os ]

-- the last unsound opening before it, or u where there is none
abbrev pub unsound_before : Option UnsoundOpening → List OpeningAt → Option UnsoundOpening
unsound_before u [] = u
unsound_before u (o ∷ os) = elim o.reads [ Ok i ↦ u | Err e ↦ unsound_before (Some (record { place = o.place; cause = e })) os ]

-- what stands after an opening: an item, or an unsound copy at this place
abbrev pub opened : TapePlace → Result Numbered CopyFault → Result Numbered UnsoundOpening
opened p (Ok i) = Ok i
opened p (Err e) = Err (record { place = p; cause = e })

-- what next found
abbrev pub found_by : Result Found UnlocatedNumber → FindResult
found_by (Ok (Item p i after)) = found_item (placed p (held i))
found_by (Ok (End passed)) = found_end passed
found_by (Err w) = found_beyond w

-- where the replay goes on: with an item next hands out the cursor after it, and otherwise it stays
abbrev pub goes_on : ReplayCursor → Result Found UnlocatedNumber → ReplayCursor
goes_on k (Ok (Item p i after)) = after
goes_on k (Ok (End passed)) = k
goes_on k (Err w) = k

-- the number after the last item of a replay, or the one that is not located
abbrev pub number_after : ReplayState → Option UnsoundOpening → Result ℕ UnlocatedNumber
number_after (expecting out n passed) u = Ok n
number_after (not_located out n p) u = Err (record { expected = n; found = p; unsound = u })
