-- FNV-1a of 64 bits.
use Rattle.std.specs.Prelude.{ℕ, ◌*◌, ◌%◌, ◌^◌, bit_xor}

-- the hash of no bytes
abbrev pub empty_hash : ℕ
empty_hash = 0xCBF29CE484222325

-- the hash after one byte more
abbrev pub next_hash : ℕ → ℕ → ℕ
next_hash hash byte = bit_xor hash byte * 0x100000001B3 % 2 ^ 64
