-- What a pen writes: cells, one part after the other, into a lent buffer.
use Rattle.std.specs.Prelude.{◌≡◌, ℕ, ◌+◌, ◌≤◌, List, length}
use Rattle.qic24.specs.Buffers.{overlaid}
use Rattle.qic24.specs.declared.pen.Pen.{Pen}

-- the buffer has room for n cells more
abbrev pub HasRoom : Pen → ℕ → Type 0
HasRoom p n = p.at + n ≤ length p.out.now

-- these cells are written at the pen's place, which moves behind them; it is the same buffer
pub record Writes (old new : Pen) (xs : List ℕ) : Type 0 where
  pub same : new.out.ghost_name ≡ old.out.ghost_name
  pub place : new.at ≡ old.at + length xs
  pub cells : new.out.now ≡ overlaid old.out.now old.at xs
