use Rattle.std.proofs.Common.{refl}
use Rattle.replay.proofs.FoundThings.{next_finds}
use Rattle.replay.proofs.Replaying.{replays_sound_copies, replays_in_order, next_by-next}
use Rattle.deck.proofs.laws.first_number.Goals as goal

pub returns : goal.returns
returns c = record { value = refl; copies = replays_sound_copies; order = replays_in_order; steps = next_by-next; finds = next_finds }
