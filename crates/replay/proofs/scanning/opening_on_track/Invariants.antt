use Rattle.std.proofs.Common.{◌+◌, ◌-◌, ◌≤◌}
use Rattle.qic24.specs.Opening.{NoneBetween}
use Rattle.tape.specs.Tape.{track}
use Rattle.replay.proofs.scanning.opening_on_track.Given as goal

abbrev pub invariant-loop-at : goal.invariant-loop-at
invariant-loop-at g l = (l.from.at ≤ l.at + 14) × NoneBetween (track (g.C.Reading.cells l.cartridge) l.from.on) l.from.at (l.at + 14)

abbrev pub decreases-loop-at : goal.decreases-loop-at
decreases-loop-at g l = l.length - l.at
