use Rattle.deck.proofs.CarriedCopies.{puts_what_it_sends}
use Rattle.deck.proofs.CountedItems.{stop-counts}
use Rattle.deck.proofs.FittingRuns.{runs_fit}
use Rattle.deck.proofs.GoingWell.{all_goes_well}
use Rattle.deck.proofs.NeverShort.{nothing_runs-short}
use Rattle.deck.proofs.OnlyPut.{only_what_was_put}
use Rattle.deck.proofs.PutItems.{puts_what_it_takes}
use Rattle.deck.proofs.UnspoiledCalls.{can_be_made}
use Rattle.deck.proofs.deck.Deck.new.Goals as goal

pub returns : goal.returns
returns g c = record {
  cartridge = rw c.idle.ensures;
  idle = rw c.idle.ensures;
  cursor = rw c.idle.ensures;
  short = nothing_runs-short;
  fit = runs_fit;
  counts = stop-counts;
  sends = puts_what_it_sends;
  takes = puts_what_it_takes;
  unspoiled = all_goes_well;
  made = can_be_made;
  only = only_what_was_put;
}
