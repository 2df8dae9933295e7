-- The odd cartridge by its cells, and what it takes.
use Rattle.std.specs.Prelude.{◌≡◌, ℕ, List, [], ◌∷◌, ◌++◌}
use Rattle.tape.specs.Tape.{Tape, Run}
use Rattle.oddtape.specs.Odd.{thinned, after}
use Rattle.oddtape.specs.declared.odd.OddTape.{OddTape}

-- the cells in use
abbrev pub odd_cells : OddTape → List ℕ
odd_cells s = s.cells.items

-- one track has them
abbrev pub odd_tape : OddTape → Tape
odd_tape s = odd_cells s ∷ []

-- and room for so many
abbrev pub odd_room : OddTape → ℕ
odd_room _ = 512

-- the cells that were sent are added with every third one dropped, counted on from the append before
pub record OddTakes (s : OddTape) (r : Run) (e : OddTape) : Type 0 where
  pub on : r.on ≡ 0
  pub adds : odd_cells e ≡ odd_cells s ++ thinned s.ones.passed r.sent
  pub counts : e.ones.passed ≡ after s.ones.passed r.sent
