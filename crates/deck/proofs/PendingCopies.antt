-- The copy that a call leaves pending is found again by the tape.
use Rattle.std.proofs.Common.{◌≡◌, ℕ, suc, ◌+◌, ◌-◌, ◌*◌, ◌<◌, min, true, cond, eqb, List, [], ◌∷◌, ◌++◌, length, sym, refl, ap, ◌∙◌, subst, arith}
use Rattle.std.proofs.lemmas.Bool.{ltb-true}
use Rattle.qic24.specs.declared.item.Content.{Content}
use Rattle.qic24.specs.declared.layout.Preamble.TheVariants.{Normal, Elongated, Long}
use Rattle.tape.specs.Tape.{Tape, track, Longer, Grown}
use Rattle.replay.specs.Copies.{place_on, CopyAt, placed}
use Rattle.deck.specs.Measures.{copy_tail, copy_head, normal_copy, most_writings, more_writings, finish_room}
use Rattle.deck.specs.Calls.{item_of}
use Rattle.deck.specs.Deck.{RecordingNumbers, item_pending, deck_recording, short_to_finish, copy_run, copy_runs, first_preamble, end_track, end_place, pending_copy, finish_runs, first_on, starts, new_at, pair_puts}
use Rattle.deck.proofs.CopyLengths.{Full}
use Rattle.deck.proofs.CallRuns.{EmptyPast, Valid, past-end_track, end_place-is, start_grew, pairs_grew, change_grew}

-- while an item is pending there is room to finish it
pub not_short : (room : ℕ) (c : Tape) (s : RecordingNumbers) (x : Content) → Valid room c (deck_recording s (item_pending x)) → short_to_finish room c ≡ true → ⊥
not_short room c s x v e = omega (arith, v.1, ltb-true (room - end_place c) finish_room e)

pending_found : (m : Tape) (t p n : ℕ) (s : RecordingNumbers) (x : Content) → end_track m ≡ t → end_place m ≡ p + copy_tail → s.next ≡ suc n → pending_copy m s x ≡ placed (place_on t p) (item_of n x)
pending_found m t p n s x a b c =
    let q : end_place m - copy_tail ≡ p = omega arith in
    let k : s.next - 1 ≡ n = omega arith in
    ap (λ (u : ℕ). placed (place_on u (end_place m - copy_tail)) (item_of (s.next - 1) x)) a ∙ (ap (λ (u : ℕ). placed (place_on t u) (item_of (s.next - 1) x)) q ∙ ap (λ (u : ℕ). placed (place_on t p) (item_of u x)) k)

-- the numbers after one more item was taken
abbrev pub one_taken : RecordingNumbers → RecordingNumbers
one_taken s = record { first = s.first; next = suc s.next }

module _ (room : ℕ) (c m : Tape) (s : RecordingNumbers) (x : Content) where
  pub starts_pending : (t : ℕ) → Full x → EmptyPast c t → Grown c (starts room c s t (item_of s.next x)).runs m → pending_copy m (one_taken s) x ≡ first_on room c t (item_of s.next x)
  starts_pending t f past (n, l, g) =
      let l : Longer (copy_run (first_preamble c t) (first_on room c t (item_of s.next x))) c m = subst (λ (z : Tape). Longer (copy_run (first_preamble c t) (first_on room c t (item_of s.next x))) c z) (sym g) l in
      let w = start_grew room c m t (item_of s.next x) f l past in
      let ends : end_place m ≡ (length (track c t) + copy_head (first_preamble c t)) + copy_tail = end_place-is m ∙ (ap (λ (u : ℕ). length (track m u)) w.1 ∙ (w.0 ∙ omega arith)) in
      pending_found m t (length (track c t) + copy_head (first_preamble c t)) s.next (one_taken s) x w.1 ends refl

  pub follows_pending : (N : CopyAt) (k : ℕ) → k < most_writings → Full N.item.content → Full x → Grown c (copy_runs (pair_puts room c N (item_of s.next x) k)) m → pending_copy m (one_taken s) x ≡ placed (new_at room c k) (item_of s.next x)
  follows_pending N k l f1 f2 g =
      let all : k ≡ min k more_writings = omega arith in
      let w = pairs_grew room c m N (item_of s.next x) k f1 f2 g in
      let ends : end_place m ≡ (end_place c + 2 * k * normal_copy + copy_head Normal) + copy_tail = end_place-is m ∙ (ap (λ (u : ℕ). length (track m u)) w.1 ∙ (w.0 ∙ omega (arith, all))) in
      pending_found m (end_track c) (end_place c + 2 * k * normal_copy + copy_head Normal) s.next (one_taken s) x w.1 ends refl

  pub changes_pending : (N : CopyAt) (k : ℕ) → Full N.item.content → Full x → Grown c (finish_runs room c N k ++ (copy_run (first_preamble c (suc (end_track c))) (first_on room c (suc (end_track c)) (item_of s.next x)) ∷ [])) m → pending_copy m (one_taken s) x ≡ first_on room c (suc (end_track c)) (item_of s.next x)
  changes_pending N k f1 f2 g =
      let w = change_grew room c m N (item_of s.next x) k f1 f2 g in
      let empty : track c (suc (end_track c)) ≡ [] = past-end_track c (suc (end_track c)) (omega arith) in
      let long : copy_head (first_preamble c (suc (end_track c))) ≡ copy_head Long = ap (λ (z : List ℕ). copy_head (cond (eqb (length z) 0) Long Elongated)) empty in
      let ends : end_place m ≡ (length (track c (suc (end_track c))) + copy_head (first_preamble c (suc (end_track c)))) + copy_tail = end_place-is m ∙ (ap (λ (u : ℕ). length (track m u)) w.2 ∙ (w.1 ∙ omega (arith, long, ap length empty))) in
      pending_found m (suc (end_track c)) (length (track c (suc (end_track c))) + copy_head (first_preamble c (suc (end_track c)))) s.next (one_taken s) x w.2 ends refl
