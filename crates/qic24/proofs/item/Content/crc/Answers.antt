use Rattle.std.proofs.Common.{ap, ◌∙◌, sym}
use Rattle.qic24.specs.Copy.{counted, mark_counts}
use Rattle.qic24.specs.Crc.{crc}
use Rattle.qic24.proofs.item.Content.crc.Goals as goal

pub returns-in-Mark : goal.returns-in-Mark
unfolding mark_counts
returns-in-Mark c = c.crc-in-Mark.ensures ∙ ap (λ x. crc (counted x)) (sym c.in-Mark.is)
