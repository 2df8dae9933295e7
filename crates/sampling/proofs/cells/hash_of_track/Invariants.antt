use Rattle.std.proofs.Common.{◌≡◌, ◌-◌, ◌≤◌, fold, take}
use Rattle.tape.specs.Tape.{track}
use Rattle.sampling.specs.Fnv.{empty_hash, next_hash}
use Rattle.sampling.proofs.cells.hash_of_track.Given as goal

-- the cells before the place are hashed
abbrev pub invariant-loop-place : goal.invariant-loop-place
invariant-loop-place g l = (l.place ≤ l.length) × (l.hash ≡ fold next_hash empty_hash (take l.place (track (g.C.Reading.cells l.cartridge) l.on)))

abbrev pub decreases-loop-place : goal.decreases-loop-place
decreases-loop-place g l = l.length - l.place
