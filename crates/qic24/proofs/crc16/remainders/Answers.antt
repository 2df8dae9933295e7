use Rattle.std.proofs.Common.{refl}
use Rattle.qic24.specs.Cells.{bits}
use Rattle.qic24.specs.Crc.{crc_step, remainder}
use Rattle.qic24.proofs.crc16.remainders.Goals as goal

pub returns : goal.returns
unfolding remainder bits crc_step
returns c = record { size = refl; right = refl }
