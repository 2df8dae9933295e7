-- What a packed store's tape keeps of the rules of every cartridge.
use Rattle.std.specs.Prelude.{◌≡◌, ℕ, ◌+◌, ◌*◌, ◌/◌, ◌<◌, ◌≤◌, List, length, slice_index}
use Rattle.std.proofs.Common.{sym, subst, arith}
use Rattle.std.specs.List.{AllByRecursion}
use Rattle.std.proofs.ByRecursion.{All-from_get_or}
use Rattle.std.proofs.lemmas.List.FromFn.{length-map-range_with_len, get_or-map-range_with_len}
use Rattle.tape.specs.Tape.{most_tracks, track, Cell}
use Rattle.tape.proofs.Tapes.{length_by, each-track}
use Rattle.packed.specs.Packed.{bit, packed_bytes, packed_cell, packed_cells, packed_tape}
use Rattle.packed.specs.PackedStores.{packed_store_tape, packed_store_room}
use Rattle.packed.specs.declared.packed.PackedStore.{PackedStore}

pub bit_small : (b j : ℕ) → bit b j < 2
unfolding bit
bit_small b j = omega arith

pub length_cells : (b : List ℕ) (base n : ℕ) → length (packed_cells b base n) ≡ n
unfolding packed_cells
length_cells b base n = length-map-range_with_len (packed_cell b base) 0 n

cells_binary : (b : List ℕ) (base n : ℕ) → AllByRecursion Cell (packed_cells b base n)
unfolding packed_cells packed_cell
cells_binary b base n = All-from_get_or Cell (packed_cells b base n) 0 (λ i h.
    let l : i < n = omega (arith, length_cells b base n) in
    subst Cell (sym (get_or-map-range_with_len (packed_cell b base) 0 n i i 0 l (omega arith))) (bit_small (slice_index b (base + i / 8)) _))

-- any tape of a store's bytes, with u cells on its tracks
module _ (b : List ℕ) (n c : ℕ) (u : List ℕ) where
  pub packed_length : length (packed_tape b n c u) ≡ n
  unfolding packed_tape
  packed_length = length_by n _

  pub packed_within : ((t : ℕ) → slice_index u t ≤ c) → (t : ℕ) → length (track (packed_tape b n c u) t) ≤ c
  unfolding packed_tape
  packed_within h = each-track (λ x. length x ≤ c) n _ (omega arith) (λ t. omega (arith, h t, length_cells b (t * packed_bytes c) (slice_index u t)))

  pub packed_cells_binary : (t : ℕ) → AllByRecursion Cell (track (packed_tape b n c u) t)
  unfolding packed_tape
  packed_cells_binary = each-track (AllByRecursion Cell) n _ tt (λ t. cells_binary b (t * packed_bytes c) (slice_index u t))

module _ (s : PackedStore) where
  pub packed_tracks : length (packed_store_tape s) ≡ s.sizes.tracks
  packed_tracks = packed_length s.memory.items s.sizes.tracks s.sizes.capacity s.used

  pub packed_few : length (packed_store_tape s) ≤ most_tracks
  packed_few = omega (arith, packed_tracks, s.sizes.few)

  pub packed_empty : length (packed_store_tape s) ≡ 0 → packed_store_room s ≡ 0
  packed_empty e = omega (arith, packed_tracks, s.sizes.empty)

  pub packed_inside : (t : ℕ) → length (track (packed_store_tape s) t) ≤ packed_store_room s
  packed_inside = packed_within s.memory.items s.sizes.tracks s.sizes.capacity s.used s.inside

  pub packed_binary : (t : ℕ) → AllByRecursion Cell (track (packed_store_tape s) t)
  packed_binary = packed_cells_binary s.memory.items s.sizes.tracks s.sizes.capacity s.used
