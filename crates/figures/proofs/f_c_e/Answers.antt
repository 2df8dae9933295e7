use Rattle.std.proofs.Common.{refl}
use Rattle.qic24.specs.Cells.{bits, nibble_codes, nibble_cells}
use Rattle.figures.proofs.f_c_e.Goals as goal

pub returns : goal.returns
unfolding nibble_cells nibble_codes bits
returns c = refl
