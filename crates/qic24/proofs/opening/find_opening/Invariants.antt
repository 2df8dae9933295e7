use Rattle.std.proofs.Common.{◌≡◌, ◌+◌, ◌%◌, map, take, drop}
use Rattle.qic24.specs.Cells.{cell, number_of}
use Rattle.qic24.specs.Opening.{NoneBetween}
use Rattle.qic24.proofs.opening.find_opening.Given as goal

abbrev pub invariant-loop-more : goal.invariant-loop-more
invariant-loop-more l =
    (l.seen ≡ number_of (take l.more (drop l.start (map cell l.cells))) % 16384) ×
    NoneBetween (map cell l.cells) l.from (l.start + l.more + 1)
