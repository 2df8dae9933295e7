use Rattle.std.proofs.Common.{◌≡◌, length}
use Rattle.replay.specs.Answered.{first_copy, unsound_before}
use Rattle.replay.specs.Scan.{openings_from}
use Rattle.replay.proofs.copies.copy_from.Given as goal

-- what is left gives what was to be found
abbrev pub invariant-loop-place : goal.invariant-loop-place
invariant-loop-place g l =
    (first_copy (openings_from (g.C.Reading.cells l.cartridge) l.from) ≡ first_copy (openings_from (g.C.Reading.cells l.cartridge) l.initial.from))
    × (unsound_before l.unsound (openings_from (g.C.Reading.cells l.cartridge) l.from) ≡ unsound_before l.initial.unsound (openings_from (g.C.Reading.cells l.cartridge) l.initial.from))

abbrev pub decreases-loop-place : goal.decreases-loop-place
decreases-loop-place g l = length (openings_from (g.C.Reading.cells l.cartridge) l.from)
