use Rattle.std.proofs.Common.{◌≡◌}
use Rattle.replay.specs.Copies.{place_on}
use Rattle.replay.specs.Scan.{openings_from}
use Rattle.replay.proofs.scanning.opening_from.Given as goal

-- what is passed has no opening
abbrev pub invariant-loop-on : goal.invariant-loop-on
invariant-loop-on g l = openings_from (g.C.Reading.cells l.cartridge) (place_on l.on l.at) ≡ openings_from (g.C.Reading.cells l.cartridge) l.fn.from
