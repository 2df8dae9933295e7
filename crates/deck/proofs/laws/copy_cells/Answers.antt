use Rattle.std.proofs.Common.{refl}
use Rattle.replay.proofs.Growing.{sound_for_good}
use Rattle.replay.proofs.SoundCopies.{lists_sound_copies, one_list, stands_exactly, never_overlap}
use Rattle.replay.proofs.TapeOpenings.{opens_exactly}
use Rattle.deck.proofs.laws.copy_cells.Goals as goal

pub returns : goal.returns
returns c = record { value = refl; openings = opens_exactly; lists = lists_sound_copies; once = one_list; stands = stands_exactly; clear = never_overlap; good = sound_for_good }
