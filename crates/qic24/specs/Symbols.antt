-- What a group that is a code stands for.
use Rattle.std.specs.Prelude.{ℕ, Bool, true, false, cond, ◌==◌}
use Rattle.qic24.specs.declared.decoding.Symbol.{Symbol}
use Rattle.qic24.specs.declared.decoding.Symbol.TheVariants.{Byte, Mark}

-- the symbol of an entry of the reading table
abbrev pub symbol_of : ℕ → Symbol
symbol_of e = cond (e == 256) Mark (Byte e)

-- its byte; a mark byte counts as FF
abbrev pub symbol_byte : Symbol → ℕ
symbol_byte (Byte b) = b
symbol_byte Mark = 0xFF

-- whether it is the mark byte
abbrev pub symbol_is_mark : Symbol → Bool
symbol_is_mark (Byte b) = false
symbol_is_mark Mark = true
