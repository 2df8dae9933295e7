use Rattle.std.proofs.Common.{◌≡◌, ℕ, [], List, get_or, ap, ◌∙◌, subst, arith}
use Rattle.std.proofs.lemmas.List.FromFn.{get_or-map-range_with_len}
use Rattle.qic24.specs.Cells.{nibble_cells}
use Rattle.qic24.specs.Pens.{Writes}
use Rattle.qic24.proofs.pen.Pen.nibble.Goals as goal

pub returns : goal.returns
returns c =
    let n = c.args.nibble in
    let row : get_or c.nibbles.result.now c.from.result [] ≡ nibble_cells n =
    ap (λ (z : List (List ℕ)). get_or z c.from.result []) c.nibbles.ensures ∙ get_or-map-range_with_len nibble_cells 0 16 c.from.result n [] (omega (arith, c.from.ensures, c.requires.small)) (omega (arith, c.from.ensures)) in
    subst (Writes c.args.self.now c.cells.new.self) row c.cells.ensures
