use Rattle.std.proofs.Common.{refl}
use Rattle.qic24.specs.Cells.{nibble_codes}
use Rattle.qic24.specs.Decode.{entry}
use Rattle.qic24.proofs.reading.reading.Goals as goal

pub returns : goal.returns
unfolding entry nibble_codes
returns c = record { size = refl; right = refl }
