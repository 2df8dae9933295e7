-- A packed store as a cartridge.
use Rattle.std.specs.Prelude.{ℕ, Bool, vec_items}
use Rattle.tape.specs.Tape.{Tape}
use Rattle.packed.specs.Packed.{packed_bytes, packed_tape}
use Rattle.tape.specs.Stores.{store_fits}
use Rattle.packed.specs.declared.packed.PackedStore.{PackedStore}

-- sizes within the limits, and memory enough for them
abbrev pub packed_fits : ℕ → ℕ → ℕ → Bool
packed_fits t c have = store_fits t c (packed_bytes c) have

-- the cells that its bytes stand for
abbrev pub packed_store_tape : PackedStore → Tape
packed_store_tape s = packed_tape (vec_items s.memory) s.sizes.tracks s.sizes.capacity s.used

-- the capacity of every track
abbrev pub packed_store_room : PackedStore → ℕ
packed_store_room s = s.sizes.capacity
