use Rattle.std.proofs.Common.{refl}
use Rattle.qic24.specs.Cells.{bits, nibble_codes, nibble_cells}
use Rattle.qic24.proofs.pen.nibbles.Goals as goal

pub returns : goal.returns
unfolding nibble_cells nibble_codes bits
returns c = refl
