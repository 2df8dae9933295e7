-- The tape that a packed store's bytes stand for.
use Rattle.std.specs.Prelude.{◌≡◌, ℕ, ◌+◌, ◌*◌, ◌<◌, ◌≤◌, List, ◌++◌, map, length, take, drop, Ok, Err, nat_lt, ◌≢◌, slice_index, slice_set}
use Rattle.std.proofs.Math.Path.{sym, ap}
use Rattle.std.proofs.Common.{subst, ◌∙◌, inl, inr, arith}
use Rattle.std.proofs.Math.ListN.{length-drop}
use Rattle.std.specs.List.{range_with_len}
use Rattle.std.proofs.lemmas.Nat.{row_fits}
use Rattle.std.proofs.lemmas.List.{length-take-le, get_or-take, get_or-drop, get_or-set_same, get_or-set_other, same_lists}
use Rattle.std.proofs.lemmas.Bool.{cases_order}
use Rattle.std.proofs.lemmas.List.FromFn.{length-map-range_with_len, get_or-map-range_with_len}
use Rattle.tape.specs.Calls.{length_answer}
use Rattle.tape.specs.Tape.{track, blank, cell}
use Rattle.packed.specs.Packed.{packed_bytes, packed_cell, packed_cells, packed_tape}
use Rattle.packed.specs.Packing.{Put}
use Rattle.packed.specs.PackedStores.{packed_store_tape}
use Rattle.packed.specs.declared.packed.PackedStore.{PackedStore}
use Rattle.tape.proofs.Replies.{length-told}
use Rattle.std.proofs.lemmas.Bool.{cond-true, cond-false, lt-ltb, le-ltb}
use Rattle.tape.specs.declared.refusal.Refusal.TheVariants.{NoTrack}
use borrow.Rule.Slice.PartMut.{put_mid}
use Rattle.std.specs.Vec.{with_items}
use Rattle.std.proofs.lemmas.List.{with_items_is, places}
use Rattle.tape.specs.Tape.{run}
use Rattle.tape.specs.Stores.{Unspoiled}
use Rattle.packed.proofs.Parts.{cell_within}
use Rattle.packed.proofs.Gets.{counted_same}
use Rattle.packed.proofs.Puts.{put_within}
use Rattle.packed.specs.PackedLaws.{length_cells, packed_tracks}
use Rattle.packed.proofs.Puts.{put_cells, same_cells}
use Rattle.tape.proofs.Tapes.{track_by, by_set, by_blank}

module _ (b : List ℕ) (n c : ℕ) (u : List ℕ) where
  pub packed_track : (t : ℕ) → t < n → track (packed_tape b n c u) t ≡ packed_cells b (t * packed_bytes c) (slice_index u t)
  unfolding packed_tape
  packed_track t h = track_by n (λ t. packed_cells b (t * packed_bytes c) (slice_index u t)) t h

  pub packed_track_length : (t : ℕ) → t < n → length (track (packed_tape b n c u) t) ≡ slice_index u t
  packed_track_length t h = ap length (packed_track t h) ∙ length_cells b (t * packed_bytes c) (slice_index u t)

  pub packed_blank : ((t : ℕ) → slice_index u t ≡ 0) → packed_tape b n c u ≡ blank n
  unfolding packed_tape packed_cells
  packed_blank z = by_blank n _ (λ t. ap (packed_cells b (t * packed_bytes c)) (z t))

  -- what a read copies
  pub packed_read : (t p k : ℕ) → t < n → p + k ≤ slice_index u t → take k (drop p (track (packed_tape b n c u) t)) ≡ map (packed_cell b (t * packed_bytes c)) (range_with_len p k)
  unfolding packed_cells
  packed_read t p k h l =
      let f : ℕ → ℕ = packed_cell b (t * packed_bytes c) in
      let m = length-map-range_with_len f 0 (slice_index u t) in
      ap (λ (x : List ℕ). take k (drop p x)) (packed_track t h)
      ∙ same_lists _ _ (length-take-le k (drop p (map f (range_with_len 0 (slice_index u t)))) (omega (arith, length-drop p (map f (range_with_len 0 (slice_index u t))))) ∙ sym (length-map-range_with_len f p k))
      (λ i d q.
      let i-below : i < k = omega (arith, length-take-le k (drop p (map f (range_with_len 0 (slice_index u t)))) (omega (arith, length-drop p (map f (range_with_len 0 (slice_index u t)))))) in
      get_or-take k (drop p (map f (range_with_len 0 (slice_index u t)))) i d i-below
      ∙ get_or-drop p (map f (range_with_len 0 (slice_index u t))) i d
      ∙ get_or-map-range_with_len f 0 (slice_index u t) (p + i) (p + i) d (omega arith) (omega arith)
      ∙ sym (get_or-map-range_with_len f p k i (p + i) d i-below (omega arith)))

  -- what an append leaves
  pub packed_append : (t m : ℕ) (xs e : List ℕ) → t < n → t < length u → ((v : ℕ) → slice_index u v ≤ c) → m ≡ slice_index u t + length xs → m ≤ c
      → Put (t * packed_bytes c) (slice_index u t) xs b e
      → packed_tape e n c (slice_set u t m) ≡ slice_set (packed_tape b n c u) t (track (packed_tape b n c u) t ++ map cell xs)
  unfolding packed_tape
  packed_append t m xs e h hu fit me fits put =
      by_set n _ (λ v. packed_cells e (v * packed_bytes c) (slice_index (slice_set u t m) v)) t _ here there
    where
      here : packed_cells e (t * packed_bytes c) (slice_index (slice_set u t m) t) ≡ track (packed_tape b n c u) t ++ map cell xs
      here =
          ap (packed_cells e (t * packed_bytes c)) (get_or-set_same u t m 0 hu ∙ me) ∙ put_cells (t * packed_bytes c) (slice_index u t) xs b e put
          ∙ ap (λ (x : List ℕ). x ++ map cell xs) (sym (packed_track t h))

      there : (v : ℕ) → (v ≢ t) → packed_cells e (v * packed_bytes c) (slice_index (slice_set u t m) v) ≡ packed_cells b (v * packed_bytes c) (slice_index u v)
      there v ne =
          ap (packed_cells e (v * packed_bytes c)) (get_or-set_other u t v m 0 ne)
          ∙ same_cells (v * packed_bytes c) (slice_index u v) b e (λ k p q.
          let fv = fit v in
          elim (cases_order v t) [
            | inl x ↦ absurd (ne x)
            | inr (inl x) ↦ put.below k (omega (arith, row_fits v (packed_bytes c) t (packed_bytes c) x (omega arith)))
            | inr (inr x) ↦ put.above k (omega (arith, row_fits t (packed_bytes c) v (packed_bytes c) x (omega arith)))
          ])

module _ (s : PackedStore) (t : ℕ) where
  -- what a store answers for the length of a track
  pub stored_length : t < s.sizes.tracks → Ok (slice_index s.used t) ≡ length_answer (packed_store_tape s) t
  stored_length h =
      ap Ok (sym (packed_track_length s.memory.items s.sizes.tracks s.sizes.capacity s.used t h))
      ∙ sym (cond-true (nat_lt t (length (packed_store_tape s))) _ _ (lt-ltb t (length (packed_store_tape s)) (omega (arith, packed_tracks s))))

  pub stored_nowhere : s.sizes.tracks ≤ t → Err NoTrack ≡ length_answer (packed_store_tape s) t
  stored_nowhere h = sym (cond-false (nat_lt t (length (packed_store_tape s))) _ _ (le-ltb t (length (packed_store_tape s)) (omega (arith, packed_tracks s))))

  -- a length that it answered
  pub length_stored : (x : ℕ) → Ok x ≡ length_answer (packed_store_tape s) t → (t < s.sizes.tracks) × (x ≡ slice_index s.used t)
  length_stored x e =
      let told = length-told t (length (packed_store_tape s)) (length (track (packed_store_tape s) t)) x e in
      let there : t < s.sizes.tracks = omega (arith, told.0, packed_tracks s) in
      (there, told.1 ∙ packed_track_length s.memory.items s.sizes.tracks s.sizes.capacity s.used t there)

  -- the bytes of a track stand in its memory
  pub bytes_inside : t < s.sizes.tracks → t * packed_bytes s.sizes.capacity + packed_bytes s.sizes.capacity ≤ s.memory.len
  bytes_inside h = omega (arith, row_fits t (packed_bytes s.sizes.capacity) s.sizes.tracks (packed_bytes s.sizes.capacity) h (omega arith), s.enough)

  -- what a read copies, out of the track's bytes
  pub stored_read : (i n p k l : ℕ) (all : List ℕ) → t < s.sizes.tracks → l ≡ slice_index s.used t → p + k ≤ l
      → i ≡ t * packed_bytes s.sizes.capacity → n ≡ packed_bytes s.sizes.capacity → all ≡ s.memory.items
      → map (packed_cell (take n (drop i all)) 0) (range_with_len p k) ≡ take k (drop p (track (packed_store_tape s) t))
  stored_read i n p k l all h el fits ei en is =
      let inside = s.inside t in
      counted_same (packed_cell (take n (drop i all)) 0) (packed_cell s.memory.items (t * packed_bytes s.sizes.capacity)) p k
      (λ q b.
      cell_within all i n (p + q) (omega arith)
      ∙ ap (λ (x : List ℕ). packed_cell x i (p + q)) is
      ∙ ap (λ (j : ℕ). packed_cell s.memory.items j (p + q)) ei)
      ∙ sym (packed_read s.memory.items s.sizes.tracks s.sizes.capacity s.used t p k h (omega arith))

  -- what an append leaves, in the track's bytes
  pub stored_append : (i n k l m : ℕ) (xs all b : List ℕ) → t < s.sizes.tracks → l ≡ slice_index s.used t → k ≡ t → m ≡ l + length xs → m ≤ s.sizes.capacity
      → i ≡ t * packed_bytes s.sizes.capacity → n ≡ packed_bytes s.sizes.capacity → all ≡ s.memory.items → length all ≡ s.memory.len → length b ≡ n
      → Put 0 l xs (take n (drop i all)) b
      → Unspoiled (run t (map cell xs)) (packed_store_tape s) (packed_tape (with_items s.memory (put_mid i n all b)).items s.sizes.tracks s.sizes.capacity (slice_set s.used k m))
  stored_append i n k l m xs all b h el ek em fits ei en is long lb f =
      let new = put_mid i n all b in
      let inside = bytes_inside h in
      let put : Put i l xs all new = put_within i n l xs all b (omega arith) lb (omega arith) f in
      let wrote : Put (t * packed_bytes s.sizes.capacity) (slice_index s.used t) xs s.memory.items new =
      subst (λ (j : ℕ). Put j (slice_index s.used t) xs s.memory.items new) ei
      (subst (λ (p : ℕ). Put i p xs s.memory.items new) el
      (subst (λ (x : List ℕ). Put i l xs x new) is put)) in
      let whole : length new ≡ s.memory.len = grind (arith, places) in
      record {
        there = omega (arith, packed_tracks s);
        is =
            ap (λ (x : List ℕ). packed_tape x s.sizes.tracks s.sizes.capacity (slice_set s.used k m)) (with_items_is s.memory new whole)
            ∙ ap (λ (j : ℕ). packed_tape new s.sizes.tracks s.sizes.capacity (slice_set s.used j m)) ek
            ∙ packed_append s.memory.items s.sizes.tracks s.sizes.capacity s.used t m xs new h (omega (arith, s.nine, s.sizes.few)) s.inside (omega arith) fits wrote;
      }
