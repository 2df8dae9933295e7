use Rattle.std.proofs.Common.{◌≡◌, ◌/◌, ◌%◌, subst, arith}
use lib.Bits.{bit_and, and_mask}
use Rattle.qic24.specs.Cells.{byte_cells, nibble_cells}
use Rattle.qic24.specs.Pens.{Writes}
use Rattle.qic24.proofs.Binary.{length_nibble}
use Rattle.qic24.proofs.Pens.{writes-more, room-after}
use Rattle.qic24.proofs.pen.Pen.byte.Goals as goal

pub nibble-requires-2-clause-room : goal.nibble-requires-2-clause-room
nibble-requires-2-clause-room c =
    room-after c.args.self.now c.nibble.new.self (nibble_cells (c.args.byte / 16)) 5 c.nibble.ensures (omega (arith, c.requires, length_nibble (c.args.byte / 16)))

pub returns : goal.returns
unfolding byte_cells
returns c =
    let b = c.args.byte in
    let m : bit_and b 15 ≡ b % 16 = and_mask b 4 in
    writes-more c.args.self.now c.nibble.new.self c.nibble-2.new.self (nibble_cells (b / 16)) (nibble_cells (b % 16)) (omega (arith, c.requires, length_nibble (b / 16))) c.nibble.ensures
    (subst (λ n. Writes c.nibble.new.self c.nibble-2.new.self (nibble_cells n)) m c.nibble-2.ensures)
