use Rattle.std.proofs.Common.{map, length, vec_items}
use Rattle.qic24.specs.Copy.{held}
use Rattle.replay.specs.Scan.{openings_from}
use Rattle.replay.proofs.Replaying.{ReplaysFrom}
use Rattle.deposit.proofs.replaying.replay_all.Given as goal

abbrev pub invariant-loop-item : goal.invariant-loop-item
invariant-loop-item g l = ReplaysFrom (g.C.Reading.cells l.cartridge) (map held (vec_items l.items)) l.cursor.expected l.cursor.from

abbrev pub decreases-loop-item : goal.decreases-loop-item
decreases-loop-item g l = length (openings_from (g.C.Reading.cells l.cartridge) l.cursor.from)
