-- An interval store of which one track has grown.
use Rattle.std.proofs.Common.{◌≡◌, ℕ, ◌+◌, ◌*◌, ◌/◌, ◌<◌, ◌≤◌, List, ◌++◌, length, get_or, take, drop, set, sym, ap, ◌∙◌, subst, inl, inr, arith, rules}
use Rattle.std.specs.Int.{div_ceil}
use borrow.Rule.Slice.PartMut.{put_mid}
use Rattle.std.proofs.lemmas.List.{places, length-take-le, length-append, get_or-set_same, get_or-set_other, take-take, take-append-le, drop_at, drop-take}
use Rattle.std.proofs.lemmas.Slice.{take-put_mid_below, drop-put_mid}
use Rattle.std.proofs.lemmas.Bool.{cases_eq, cases_order}
use Rattle.std.proofs.lemmas.Grind.{div_ceil_times}
use Rattle.tape.specs.Tape.{track}
use Rattle.interval.specs.Intervals.{cells_by, interval_cells, interval_tape, no_track, state_of, Stands}
use Rattle.interval.specs.Gaps.{Spelled}
use Rattle.interval.specs.Marks.{mark_stride, mark_of, Noted, OfTrack}
use Rattle.interval.specs.IntervalStores.{interval_store_tape}
use Rattle.interval.proofs.IntervalTapes.{same_bytes, same_counts, store_track}
use Rattle.interval.specs.declared.interval.IntervalStore.{IntervalStore}
use Rattle.interval.specs.declared.interval.track.Fill.{Fill}
use Rattle.interval.specs.declared.interval.track.TrackState.{TrackState}
use Rattle.interval.proofs.StrideSteps.{row_before, stride_some, mark-inside, ahead_inside, come_to}
use Rattle.tape.proofs.Tapes.{by_set}

-- memory m became e: the track t was filled as far as f, was sent the cells xs, and is filled as far as g
pub record Grew (m e : List ℕ) (c t : ℕ) (f g : Fill) (xs : List ℕ) : Type 0 where
  pub cells : interval_cells (drop (t * c) e) g ≡ interval_cells (drop (t * c) m) f ++ xs
  pub early : (w y : ℕ) → w ≤ f.used → cells_by (drop (t * c) e) w y ≡ cells_by (drop (t * c) m) w y
  pub others : (v w y : ℕ) → (v ≡ t → ⊥) → w ≤ c → cells_by (drop (v * c) e) w y ≡ cells_by (drop (v * c) m) w y
  pub more : f.used ≤ g.used
  pub few : g.used + g.zeros ≤ f.used + f.zeros + length xs

-- the part of the memory that is one track's, written anew
module _ (m ys : List ℕ) (c t : ℕ) (fits : t * c + c ≤ length m) (long : length ys ≡ c) where
  pub length-rewritten : length (put_mid (t * c) c m ys) ≡ length m
  length-rewritten = search (rules, places)

  -- what that leaves on the track itself, and on the others
  rewritten-here : (n z : ℕ) → n ≤ c → cells_by (drop (t * c) (put_mid (t * c) c m ys)) n z ≡ cells_by ys n z
  rewritten-here n z l = same_bytes _ ys n z (
      ap (take n) (drop_at (take (t * c) m) _ (t * c) (length-take-le (t * c) m (omega arith)))
      ∙ take-append-le n ys _ (omega arith))

  rewritten-there : (v n z : ℕ) → (v ≡ t → ⊥) → n ≤ c → cells_by (drop (v * c) (put_mid (t * c) c m ys)) n z ≡ cells_by (drop (v * c) m) n z
  rewritten-there v n z ne l = same_bytes _ _ n z (elim (cases_order v t) [
    | inl e ↦ absurd (ne e)
    | inr (inl low) ↦
        sym (drop-take (v * c) n (put_mid (t * c) c m ys)) ∙ ap (drop (v * c)) (take-put_mid_below (t * c) c m ys (v * c + n) (omega (arith, row_before c v t low)) (omega arith)) ∙ drop-take (v * c) n m
    | inr (inr high) ↦ ap (take n) (drop-put_mid (t * c) c m ys (v * c) (omega (arith, row_before c t v high)) (omega arith) long)
  ])

  pub grew : (f g : Fill) (xs : List ℕ) → f.used + f.zeros + length xs ≤ c → Spelled f (take c (drop (t * c) m)) xs ys g → Grew m (put_mid (t * c) c m ys) c t f g xs
  grew f g xs room add = record {
    cells = rewritten-here g.used g.zeros (omega (arith, add.few)) ∙ add.are ∙ ap (λ (y : List ℕ). y ++ xs) (same_bytes _ _ f.used f.zeros (take-take f.used c (drop (t * c) m) (omega arith)));
    early = λ w y l. rewritten-here w y (omega arith)
        ∙ same_bytes ys _ w y (sym (take-take w f.used ys l) ∙ ap (take w) add.kept ∙ take-take w f.used (take c (drop (t * c) m)) l ∙ take-take w c (drop (t * c) m) (omega arith));
    others = rewritten-there;
    more = add.more;
    few = add.few;
  }

-- one track replaced
module _ (ts : List TrackState) (t i : ℕ) (new : TrackState) (is : i ≡ t) where
  state_here : t < length ts → state_of (set ts i new) t ≡ new
  state_here inside = ap (λ (j : ℕ). state_of (set ts j new) t) is ∙ get_or-set_same ts t new no_track inside

  state_there : (v : ℕ) → (v ≡ t → ⊥) → state_of (set ts i new) v ≡ state_of ts v
  state_there v ne = ap (λ (j : ℕ). state_of (set ts j new) v) is ∙ get_or-set_other ts t v new no_track ne

  pick : (P : ℕ → TrackState → Type 0) → t < length ts → P t new → ((v : ℕ) → (v ≡ t → ⊥) → P v (state_of ts v)) → (v : ℕ) → P v (state_of (set ts i new) v)
  pick P inside here there v = elim (cases_eq v t) [
    | inl e ↦ subst (λ (w : ℕ). P w (state_of (set ts i new) w)) (sym e) (subst (P t) (sym (state_here inside)) here)
    | inr ne ↦ subst (P v) (sym (state_there v ne)) (there v ne)
  ]

-- the store with other memory, in which the track t stands otherwise
module _ (s : IntervalStore) (e : List ℕ) (t i : ℕ) (new : TrackState) (xs : List ℕ)
    (there : t < s.sizes.tracks) (is : i ≡ t) (grown : new.cells ≡ (state_of s.states t).cells + length xs) (fits : new.cells ≤ s.sizes.capacity)
    (g : Grew s.memory.items e s.sizes.capacity t (state_of s.states t).fill new.fill xs) where
  inside : t < length s.states
  inside = omega (arith, s.nine, s.sizes.few)

  pub grew_tape : interval_tape e s.sizes.tracks s.sizes.capacity (set s.states i new) ≡ set (interval_store_tape s) t (track (interval_store_tape s) t ++ xs)
  unfolding interval_tape
  grew_tape =
      by_set s.sizes.tracks _ (λ v. interval_cells (drop (v * s.sizes.capacity) e) (state_of (set s.states i new) v).fill) t _
      (ap (λ (r : TrackState). interval_cells (drop (t * s.sizes.capacity) e) r.fill) (state_here s.states t i new is inside)
      ∙ g.cells ∙ ap (λ (y : List ℕ). y ++ xs) (sym (store_track s t there)))
      (λ v ne. ap (λ (r : TrackState). interval_cells (drop (v * s.sizes.capacity) e) r.fill) (state_there s.states t i new is v ne)
      ∙ (let r = s.rule v in g.others v (state_of s.states v).fill.used (state_of s.states v).fill.zeros ne (omega (arith, r.0, r.1))))

  long_now : length (interval_cells (drop (t * s.sizes.capacity) e) new.fill) ≡ new.cells
  long_now = ap length g.cells ∙ length-append (interval_cells (drop (t * s.sizes.capacity) s.memory.items) (state_of s.states t).fill) xs ∙ ap (λ (y : ℕ). y + length xs) (s.rule t).2 ∙ sym grown

  pub grew_rule : (v : ℕ) → Stands (drop (v * s.sizes.capacity) e) s.sizes.capacity (state_of (set s.states i new) v)
  grew_rule = pick s.states t i new is (λ v r. Stands (drop (v * s.sizes.capacity) e) s.sizes.capacity r) inside
      (fits, omega (arith, (s.rule t).1, g.few), long_now)
      (λ v ne. let r = s.rule v in (r.0, r.1, ap length (g.others v (state_of s.states v).fill.used (state_of s.states v).fill.zeros ne (omega (arith, r.0, r.1))) ∙ r.2))

  -- the index, in which the mark ahead has a note of where the track stands now
  module _ (q : ℕ) (us zs : List ℕ) (used : us ≡ set s.index.used q new.fill.used) (zeros : zs ≡ set s.index.zeros q new.fill.zeros)
      (step : new.cells ≤ (state_of s.states t).cells / mark_stride s.sizes.capacity * mark_stride s.sizes.capacity + mark_stride s.sizes.capacity)
      (mark : q ≡ mark_of t (div_ceil new.cells (mark_stride s.sizes.capacity))) where
    ahead : div_ceil new.cells (mark_stride s.sizes.capacity) < 512
    ahead = ahead_inside s.sizes.capacity new.cells fits

    new_used : get_or us q 0 ≡ new.fill.used
    new_used = ap (λ (x : List ℕ). get_or x q 0) used ∙ get_or-set_same s.index.used q new.fill.used 0 (omega (arith, ahead, s.index.long.0, s.sizes.few))

    new_zeros : get_or zs q 0 ≡ new.fill.zeros
    new_zeros = ap (λ (x : List ℕ). get_or x q 0) zeros ∙ get_or-set_same s.index.zeros q new.fill.zeros 0 (omega (arith, ahead, s.index.long.1, s.sizes.few))

    -- other marks keep their notes
    old_used : (k : ℕ) → (k ≡ q → ⊥) → get_or us k 0 ≡ get_or s.index.used k 0
    old_used k ne = ap (λ (x : List ℕ). get_or x k 0) used ∙ get_or-set_other s.index.used q k new.fill.used 0 ne

    old_zeros : (k : ℕ) → (k ≡ q → ⊥) → get_or zs k 0 ≡ get_or s.index.zeros k 0
    old_zeros k ne = ap (λ (x : List ℕ). get_or x k 0) zeros ∙ get_or-set_other s.index.zeros q k new.fill.zeros 0 ne

    pub grew_held : (v : ℕ) → OfTrack (state_of (set s.states i new) v).fill.used us v
    grew_held = pick s.states t i new is (λ v r. OfTrack r.fill.used us v) inside
        (λ k h. elim (cases_eq (mark_of t k) q) [
          | inl e' ↦ omega (arith, ap (λ (j : ℕ). get_or us j 0) e', new_used)
          | inr ne ↦ omega (arith, old_used (mark_of t k) ne, s.held t k h, g.more)
        ])
        (λ v ne k h. omega (arith, old_used (mark_of v k) (omega (arith, ahead)), s.held v k h))

    pub grew_noted : (v : ℕ) → Noted (drop (v * s.sizes.capacity) e) s.sizes.capacity (state_of (set s.states i new) v).cells us zs v
    grew_noted = pick s.states t i new is (λ v r. Noted (drop (v * s.sizes.capacity) e) s.sizes.capacity r.cells us zs v) inside here others
      where
        stay : (v k : ℕ) → (mark_of v k ≡ q → ⊥) → k * mark_stride s.sizes.capacity ≤ (state_of s.states v).cells
            → cells_by (drop (v * s.sizes.capacity) e) (get_or s.index.used (mark_of v k) 0) (get_or s.index.zeros (mark_of v k) 0)
            ≡ cells_by (drop (v * s.sizes.capacity) s.memory.items) (get_or s.index.used (mark_of v k) 0) (get_or s.index.zeros (mark_of v k) 0)
            → length (cells_by (drop (v * s.sizes.capacity) e) (get_or us (mark_of v k) 0) (get_or zs (mark_of v k) 0)) ≡ k * mark_stride s.sizes.capacity
        stay v k ne h same = same_counts (drop (v * s.sizes.capacity) e) _ _ _ _ (old_used (mark_of v k) ne) (old_zeros (mark_of v k) ne) ∙ ap length same ∙ s.noted v k h

        here : Noted (drop (t * s.sizes.capacity) e) s.sizes.capacity new.cells us zs t
        here k h = elim (cases_eq k (div_ceil new.cells (mark_stride s.sizes.capacity))) [
          | inl e' ↦
              let at : mark_of t k ≡ q = omega arith in
              let come : k * mark_stride s.sizes.capacity ≡ new.cells = omega (arith, ap (λ (j : ℕ). j * mark_stride s.sizes.capacity) e', (div_ceil_times new.cells (mark_stride s.sizes.capacity) (stride_some s.sizes.capacity)).0) in
              same_counts (drop (t * s.sizes.capacity) e) _ _ new.fill.used new.fill.zeros
              (ap (λ (j : ℕ). get_or us j 0) at ∙ new_used) (ap (λ (j : ℕ). get_or zs j 0) at ∙ new_zeros) ∙ long_now ∙ sym come
          | inr ne ↦
              let come = come_to (mark_stride s.sizes.capacity) (stride_some s.sizes.capacity) (state_of s.states t).cells new.cells k step h ne in
              stay t k (omega (arith, ahead)) come (g.early _ _ (s.held t k (omega (arith, mark-inside s.sizes.capacity k (omega arith)))))
        ]

        others : (v : ℕ) → (v ≡ t → ⊥) → Noted (drop (v * s.sizes.capacity) e) s.sizes.capacity (state_of s.states v).cells us zs v
        others v ne k h =
            let r = s.rule v in
            let in' = mark-inside s.sizes.capacity k (omega (arith, r.0)) in
            stay v k (omega (arith, ahead)) h (g.others v _ _ ne (omega (arith, s.held v k (omega arith), r.0, r.1)))
