use Rattle.std.proofs.Common.{◌≡◌, false, length, None}
use Rattle.replay.specs.Scan.{openings_from}
use Rattle.replay.specs.Seeking.{seek}
use Rattle.replay.proofs.seeking.next_item.Given as goal

-- what is left gives what was to be found
abbrev pub invariant-loop-place : goal.invariant-loop-place
invariant-loop-place g l =
    seek l.expected l.passed l.unsound (openings_from (g.C.Reading.cells l.cartridge) l.from)
    ≡ seek l.expected false None (openings_from (g.C.Reading.cells l.cartridge) l.initial.from)

abbrev pub decreases-loop-place : goal.decreases-loop-place
decreases-loop-place g l = length (openings_from (g.C.Reading.cells l.cartridge) l.from)
