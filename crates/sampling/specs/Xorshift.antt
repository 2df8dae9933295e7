-- An xorshift of 64 bits.
use Rattle.std.specs.Prelude.{ℕ, ◌*◌, ◌/◌, ◌%◌, ◌^◌, bit_xor}

-- the state before any seed
abbrev pub first_state : ℕ
first_state = 0x9E3779B97F4A7C15

-- a number folded into itself, so many places up or down
abbrev pub folded_up : ℕ → ℕ → ℕ
folded_up places n = bit_xor n (n * 2 ^ places % 2 ^ 64)

abbrev pub folded_down : ℕ → ℕ → ℕ
folded_down places n = bit_xor n (n / 2 ^ places)

abbrev pub next_state : ℕ → ℕ
next_state n = folded_up 17 (folded_down 7 (folded_up 13 n))
