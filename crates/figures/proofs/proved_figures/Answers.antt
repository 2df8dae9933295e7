use Rattle.std.proofs.Common.{refl, lit≤}
use Rattle.qic24.specs.Cells.{bits, nibble_codes, nibble_cells, byte_cells}
use Rattle.figures.proofs.NoOpening.{none_found, none-there}
use Rattle.figures.proofs.proved_figures.Goals as goal

pub returns : goal.returns
unfolding byte_cells nibble_cells nibble_codes bits
returns c =
    let z = c.code_byte.ensures in
    let o = c.code_byte-2.ensures in
    let m = c.code_byte-3.ensures in
    let a = c.address_of.ensures (lit≤ tt) (lit≤ tt) in
    let n = none_found c.f_c_e.result.now c.find_opening.result c.f_c_e.ensures c.find_opening.ensures.first in
    record { table = rw (z, o, m, a, n); format = (refl, refl, refl, refl, refl, none-there); replay = λ p q r. (refl, refl, refl) }
