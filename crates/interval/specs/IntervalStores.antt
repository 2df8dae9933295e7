-- An interval store as a cartridge.
use Rattle.std.specs.Prelude.{ℕ, Bool, vec_items}
use Rattle.tape.specs.Tape.{Tape, Run}
use Rattle.interval.specs.Intervals.{interval_tape}
use Rattle.tape.specs.Stores.{store_fits, Stores}
use Rattle.interval.specs.declared.interval.IntervalStore.{IntervalStore}

-- sizes within the limits, and memory enough for them
abbrev pub interval_fits : ℕ → ℕ → ℕ → Bool
interval_fits t c have = store_fits t c c have

-- the cells of a store
abbrev pub interval_store_tape : IntervalStore → Tape
interval_store_tape s = interval_tape (vec_items s.memory) s.sizes.tracks s.sizes.capacity s.states

-- its capacity
abbrev pub interval_store_room : IntervalStore → ℕ
interval_store_room s = s.sizes.capacity

-- what an append leads to: nothing is spoiled
abbrev pub interval_store_takes : IntervalStore → Run → IntervalStore → Type 0
interval_store_takes = Stores interval_store_tape interval_store_room
