use Rattle.std.proofs.Common.{refl}
use Rattle.deck.proofs.Agreeing.{list_and_tape}
use Rattle.deposit.proofs.NewCartridges.{replays_what_was_kept}
use Rattle.deposit.proofs.laws.kept_at_first.Goals as goal

pub returns : goal.returns
returns c = record { value = refl; agreement = list_and_tape; unspoiled = replays_what_was_kept }
