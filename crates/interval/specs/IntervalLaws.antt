-- What an interval store's tape keeps of the rules of every cartridge.
use Rattle.std.specs.Prelude.{◌≡◌, ℕ, ◌*◌, ◌≤◌, List, [], ◌∷◌, length, take, drop, replicate, ◌==◌}
use Rattle.std.proofs.Common.{sym, subst, arith}
use Rattle.std.specs.List.{flat_map, AllByRecursion}
use Rattle.std.proofs.ByRecursion.{All-append, All-from_get_or}
use Rattle.std.proofs.lemmas.List.{length-replicate, get_or-replicate}
use Rattle.std.proofs.lemmas.Bool.{cond_both}
use Rattle.tape.specs.Tape.{most_tracks, track, Cell}
use Rattle.tape.proofs.Tapes.{length_by, each-track}
use Rattle.interval.specs.Intervals.{gap, cells_by, interval_cells, interval_tape, state_of}
use Rattle.interval.specs.IntervalStores.{interval_store_tape, interval_store_room}
use Rattle.interval.specs.declared.interval.IntervalStore.{IntervalStore}
use Rattle.interval.specs.declared.interval.track.Fill.{Fill}
use Rattle.interval.specs.declared.interval.track.TrackState.{TrackState}

zeros_binary : (n : ℕ) → AllByRecursion Cell (replicate n 0)
zeros_binary n = All-from_get_or Cell (replicate n 0) 0 (λ i h. subst Cell (sym (get_or-replicate n i 0 0 (omega (arith, length-replicate {A = ℕ} n 0)))) (omega arith))

gap_binary : (b : ℕ) → AllByRecursion Cell (gap b)
unfolding gap
gap_binary b = All-append Cell (replicate b 0) _ (zeros_binary b) (cond_both (b == 255) [] (1 ∷ []) (AllByRecursion Cell) (λ e. tt) (λ e. (omega arith, tt)))

bytes_binary : (b : List ℕ) → AllByRecursion Cell (flat_map gap b)
bytes_binary [] = tt
bytes_binary (x ∷ b) = All-append Cell (gap x) (flat_map gap b) (gap_binary x) (bytes_binary b)

cells_binary : (b : List ℕ) (f : Fill) → AllByRecursion Cell (interval_cells b f)
unfolding cells_by
cells_binary b f = All-append Cell (flat_map gap (take f.used b)) (replicate f.zeros 0) (bytes_binary (take f.used b)) (zeros_binary f.zeros)

-- any tape of a store's bytes, whose tracks stand so
module _ (m : List ℕ) (n c : ℕ) (ts : List TrackState) where
  pub interval_length : length (interval_tape m n c ts) ≡ n
  unfolding interval_tape
  interval_length = length_by n _

  pub interval_within : ((t : ℕ) → length (interval_cells (drop (t * c) m) (state_of ts t).fill) ≤ c) → (t : ℕ) → length (track (interval_tape m n c ts) t) ≤ c
  unfolding interval_tape
  interval_within h = each-track (λ x. length x ≤ c) n _ (omega arith) h

  pub interval_cells_binary : (t : ℕ) → AllByRecursion Cell (track (interval_tape m n c ts) t)
  unfolding interval_tape
  interval_cells_binary = each-track (AllByRecursion Cell) n _ tt (λ t. cells_binary (drop (t * c) m) (state_of ts t).fill)

module _ (s : IntervalStore) where
  pub store_length : length (interval_store_tape s) ≡ s.sizes.tracks
  store_length = interval_length s.memory.items s.sizes.tracks s.sizes.capacity s.states

  pub interval_few : length (interval_store_tape s) ≤ most_tracks
  interval_few = omega (arith, store_length, s.sizes.few)

  pub interval_empty : length (interval_store_tape s) ≡ 0 → interval_store_room s ≡ 0
  interval_empty e = omega (arith, store_length, s.sizes.empty)

  pub interval_inside : (t : ℕ) → length (track (interval_store_tape s) t) ≤ interval_store_room s
  interval_inside = interval_within s.memory.items s.sizes.tracks s.sizes.capacity s.states (λ t. let r = s.rule t in omega (arith, r.0, r.2))

  pub interval_binary : (t : ℕ) → AllByRecursion Cell (track (interval_store_tape s) t)
  interval_binary = interval_cells_binary s.memory.items s.sizes.tracks s.sizes.capacity s.states
