use Rattle.std.proofs.Common.{refl}
use Rattle.deck.proofs.Agreeing.{list_and_tape}
use Rattle.deck.proofs.MadeCalls as made
use Rattle.deck.proofs.laws.room_to_finish.Goals as goal

pub returns : goal.returns
returns c = record { value = refl; room = made.room_to_finish; agreement = list_and_tape }
