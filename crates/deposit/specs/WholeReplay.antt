-- The replay of a whole tape, as the program hands it out.
use Rattle.std.specs.Prelude.{◌≡◌, map, Ok, Err, Result, vec_items}
use Rattle.qic24.specs.Copy.{held}
use Rattle.replay.specs.Replay.{replay_items, ReplayProgress}
use Rattle.replay.specs.Seeking.{FindResult, found_end, found_beyond, ending}
use Rattle.replay.specs.declared.unlocated.UnlocatedNumber.{UnlocatedNumber}
use Rattle.deposit.specs.declared.replaying.ReplayEnd.{ReplayEnd}
use Rattle.deposit.specs.declared.replaying.Replayed.{Replayed}

-- what next finds where a replay ends
abbrev pub end_found : Result ReplayEnd UnlocatedNumber → FindResult
end_found (Ok e) = found_end e.passed
end_found (Err w) = found_beyond w

-- all that a replay hands out, and how it ends
pub record Replays (p : Replayed) (r : ReplayProgress) : Type 0 where
  pub items : map held (vec_items p.items) ≡ replay_items r.state
  pub ends : end_found p.ending ≡ ending r.state r.unsound
