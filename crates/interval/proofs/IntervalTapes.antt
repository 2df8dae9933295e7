-- The tape that an interval store's bytes stand for.
use Rattle.std.specs.Prelude.{◌≡◌, ℕ, ◌+◌, ◌*◌, ◌<◌, ◌≤◌, List, ◌++◌, length, take, drop, replicate, Ok, Result, slice_index}
use Rattle.std.proofs.Common.{sym, ◌∙◌, arith, length-drop}
use Rattle.std.proofs.Math.Path.{ap}
use Rattle.std.specs.List.{flat_map}
use Rattle.std.proofs.lemmas.List.{length-take-le, length-replicate, length-append, get_or-take, get_or-drop, get_or_default, same_lists}
use Rattle.tape.specs.Tape.{track, blank}
use Rattle.tape.specs.Calls.{length_answer}
use Rattle.tape.specs.declared.refusal.Refusal.{Refusal}
use Rattle.interval.specs.Intervals.{gap, cells_by, interval_cells, interval_tape, no_track, state_of, Stands}
use Rattle.interval.specs.Marks.{mark_stride, mark_of, Noted}
use Rattle.interval.specs.IntervalStores.{interval_store_tape}
use Rattle.interval.specs.declared.interval.IntervalStore.{IntervalStore}
use Rattle.interval.specs.declared.interval.track.Fill.{Fill}
use Rattle.interval.specs.declared.interval.track.TrackState.{TrackState}
use Rattle.interval.specs.IntervalLaws.{store_length}
use Rattle.interval.proofs.GapReads.{zeros_at}
use Rattle.tape.proofs.Replies.{length-told}
use Rattle.tape.proofs.Tapes.{track_by, by_blank}

pub length_bytes : (b : List ℕ) (n z : ℕ) → length (cells_by b n z) ≡ length (flat_map gap (take n b)) + z
unfolding cells_by
length_bytes b n z = length-append (flat_map gap (take n b)) (replicate z 0) ∙ ap (λ (k : ℕ). length (flat_map gap (take n b)) + k) (length-replicate z 0)

-- only the bytes in use matter
pub same_bytes : (a b : List ℕ) (n z : ℕ) → take n a ≡ take n b → cells_by a n z ≡ cells_by b n z
unfolding cells_by
same_bytes a b n z e = ap (λ (x : List ℕ). flat_map gap x ++ replicate z 0) e

-- and both counts
pub same_counts : (b : List ℕ) (n z m y : ℕ) → n ≡ m → z ≡ y → length (cells_by b n z) ≡ length (cells_by b m y)
same_counts b n z m y e f = ap (λ (k : ℕ). length (cells_by b k z)) e ∙ ap (λ (k : ℕ). length (cells_by b m k)) f

module _ (m : List ℕ) (n c : ℕ) (ts : List TrackState) where
  pub interval_track : (t : ℕ) → t < n → track (interval_tape m n c ts) t ≡ interval_cells (drop (t * c) m) (state_of ts t).fill
  unfolding interval_tape
  interval_track t h = track_by n (λ t. interval_cells (drop (t * c) m) (state_of ts t).fill) t h

  -- no bytes in use and no zeros beside, whatever else a track's state says
  pub interval_unfilled : ((t : ℕ) → (state_of ts t).fill.used ≡ 0) → ((t : ℕ) → (state_of ts t).fill.zeros ≡ 0) → interval_tape m n c ts ≡ blank n
  unfolding interval_tape cells_by
  interval_unfilled f g = by_blank n _ (λ t. ap (λ (u : ℕ). flat_map gap (take u (drop (t * c) m)) ++ replicate (state_of ts t).fill.zeros 0) (f t) ∙ ap (λ (z : ℕ). replicate z 0) (g t))

  pub interval_blank : ((t : ℕ) → state_of ts t ≡ no_track) → interval_tape m n c ts ≡ blank n
  interval_blank none = interval_unfilled (λ t. ap (λ (s : TrackState). s.fill.used) (none t)) (λ t. ap (λ (s : TrackState). s.fill.zeros) (none t))

-- no cells by these counts
no_cells_by : (b : List ℕ) (n z : ℕ) → n ≡ 0 → z ≡ 0 → length (cells_by b n z) ≡ 0
unfolding cells_by
no_cells_by b n z e f = same_counts b n z 0 0 e f

-- a track without cells
pub stands_unfilled : (b : List ℕ) (c : ℕ) (s : TrackState) → s.cells ≡ 0 → s.fill.used ≡ 0 → s.fill.zeros ≡ 0 → Stands b c s
stands_unfilled b c s e f g = (omega arith, omega arith, no_cells_by b s.fill.used s.fill.zeros f g ∙ sym e)

pub stands_none : (b : List ℕ) (c : ℕ) (s : TrackState) → s ≡ no_track → Stands b c s
stands_none b c s none = stands_unfilled b c s (ap (λ (s : TrackState). s.cells) none) (ap (λ (s : TrackState). s.fill.used) none) (ap (λ (s : TrackState). s.fill.zeros) none)

pub noted_unfilled : (b : List ℕ) (c x : ℕ) (us zs : List ℕ) (t : ℕ) → x ≡ 0 → ((k : ℕ) → slice_index us k ≡ 0) → ((k : ℕ) → slice_index zs k ≡ 0) → Noted b c x us zs t
noted_unfilled b c x us zs t e f g k h =
    let z : k * mark_stride c ≡ 0 = omega arith in
    no_cells_by b (slice_index us (mark_of t k)) (slice_index zs (mark_of t k)) (f (mark_of t k)) (g (mark_of t k)) ∙ sym z

pub noted_none : (b : List ℕ) (c : ℕ) (s : TrackState) (us zs : List ℕ) (t : ℕ) → s ≡ no_track → ((k : ℕ) → slice_index us k ≡ 0) → ((k : ℕ) → slice_index zs k ≡ 0) → Noted b c s.cells us zs t
noted_none b c s us zs t none = noted_unfilled b c s.cells us zs t (ap (λ (s : TrackState). s.cells) none)

-- what a read copies
pub copied_cells : (b : List ℕ) (f : Fill) (p : ℕ) (out : List ℕ) → p + length out ≤ length (interval_cells b f)
    → ((k : ℕ) → k < length out → slice_index out k ≡ slice_index (flat_map gap (take f.used b)) (p + k)) → out ≡ take (length out) (drop p (interval_cells b f))
unfolding cells_by
copied_cells b f p out h at =
    let cells : List ℕ = interval_cells b f in
    same_lists _ _ (sym (length-take-le (length out) (drop p cells) (omega (arith, length-drop p cells))))
    (λ k d q. get_or_default out k d 0 q ∙ at k q ∙ sym (zeros_at (flat_map gap (take f.used b)) f.zeros (p + k)) ∙ sym (
    get_or-take (length out) (drop p cells) k d q ∙ get_or-drop p cells k d ∙ get_or_default cells (p + k) d 0 (omega arith)))

module _ (s : IntervalStore) where
  pub store_track : (t : ℕ) → t < s.sizes.tracks → track (interval_store_tape s) t ≡ interval_cells (drop (t * s.sizes.capacity) s.memory.items) (state_of s.states t).fill
  store_track t there = interval_track s.memory.items s.sizes.tracks s.sizes.capacity s.states t there

  pub store_track_length : (t : ℕ) → t < s.sizes.tracks → length (track (interval_store_tape s) t) ≡ (state_of s.states t).cells
  store_track_length t there = ap length (store_track t there) ∙ (s.rule t).2

  -- a length that was answered
  pub length_stored : (t x : ℕ) → ◌≡◌ {A = Result ℕ Refusal} (Ok x) (length_answer (interval_store_tape s) t) → (t < s.sizes.tracks) × (x ≡ (state_of s.states t).cells)
  length_stored t x e =
      let told = length-told t (length (interval_store_tape s)) (length (track (interval_store_tape s) t)) x e in
      let there : t < s.sizes.tracks = omega (arith, told.0, store_length s) in
      (there, told.1 ∙ store_track_length t there)
