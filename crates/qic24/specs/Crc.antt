-- The cyclic redundancy check of x^16 + x^12 + x^5 + 1, as a shift register.
use Rattle.std.specs.Prelude.{ℕ, ◌*◌, ◌/◌, ◌%◌, cond, List, map, ◌==◌, bit_xor}
use Rattle.qic24.specs.Cells.{fold, concat, bits}

-- one bit into the register: it moves up by one, and where the bit that leaves it differs from the one that comes in, the polynomial's lower part is added
unfoldable pub crc_step : ℕ → ℕ → ℕ
crc_step r b = cond (r / 0x8000 == b) ((r * 2) % 0x10000) (bit_xor ((r * 2) % 0x10000) 0x1021)

-- the bytes' bits, the high bit of each first
abbrev pub bits_of : List ℕ → List ℕ
bits_of bytes = concat (map (bits 8) bytes)

-- the register after some bytes, from a register r
abbrev pub crc_from : ℕ → List ℕ → ℕ
crc_from r bytes = fold crc_step r (bits_of bytes)

-- the CRC starts from a register of all ones
abbrev pub crc : List ℕ → ℕ
crc bytes = crc_from 0xFFFF bytes

-- the register after one byte, from a register of zeros
unfoldable pub remainder : ℕ → ℕ
remainder b = fold crc_step 0 (bits 8 b)
