-- What a call leaves on the tape: copies in tape order, past what stood there, each lying whole.
use Rattle.std.proofs.Common.{◌≡◌, ℕ, zero, suc, ◌+◌, ◌-◌, ◌*◌, ◌<◌, ◌≤◌, min, Bool, true, false, cond, eqb, ltb, List, [], ◌∷◌, ◌++◌, length, Option, sym, refl, ap, ◌∙◌, subst, inl, arith, length-append}
use Rattle.std.proofs.lemmas.Bool.{ltb-false, lt-ltb, eqb-true, cond_both, cond-true}
use Rattle.qic24.specs.Copy.{Numbered, ones, preamble_ones}
use Rattle.qic24.specs.declared.item.Content.TheVariants.{Block, Mark}
use Rattle.qic24.specs.declared.layout.Preamble.TheVariants.{Elongated, Long}
use Rattle.tape.specs.Tape.{Tape, track, Run, run, Longer, Grown}
use Rattle.deck.specs.Measures.{copy_tail, copy_head, normal_copy, closing_ones, most_writings, more_writings, item_room, finish_room, number_limit}
use Rattle.replay.specs.Copies.{body_cells, CopyAt, Ascending, In, Whole}
use Rattle.replay.specs.declared.place.TapePlace.{TapePlace}
use Rattle.replay.specs.Replay.{ReplayState, expecting, not_located, ReplayProgress}
use Rattle.replay.specs.declared.unlocated.UnsoundOpening.{UnsoundOpening}
use Rattle.deck.specs.Calls.{DeckCall, begin_call, write_call, mark_call, stop_call, unwritable, item_of}
use Rattle.deck.specs.Rewriting.{rewritten, rewritten_with}
use Rattle.deck.specs.Deck.{RecordingPhase, nothing_pending, item_pending, item_failed, RecordingNumbers, DeckState, deck_idle, deck_recording, CallOutcome, declines, copy_run, copy_runs, first_preamble, copy_place, tracks_used, end_track, end_place, pending_copy, accepts, fails, alone_at, finish_puts, finish_runs, first_on, starts, pending_at, new_at, pair_puts, follows, changes_track, short_of_room, short_to_finish, media_ends, alone_failures, pair_failures, takes_item, closes, finishes, stop_does, begins, call_does}
use Rattle.replay.proofs.Orders.{split, in_append, ascending_append}
use Rattle.deck.proofs.CopyLengths.{Full, length-copy}
use Rattle.deck.proofs.LaidCopies.{Laid, in_laid, laid_ascending, grow_laid, laid_rewritten, laid_rewritten_with}

pub grown_append : (xs ys : List Run) (c e : Tape) → Grown c (xs ++ ys) e → (m : Tape) × Grown c xs m × Grown m ys e
grown_append [] ys c e g = (c, refl, g)
grown_append (x ∷ xs) ys c e (n, l, g) = let (m, a, b) = grown_append xs ys n e g in (m, (n, l, a), b)

-- no cells past track t
abbrev pub EmptyPast : Tape → ℕ → Type 0
EmptyPast c t = (u : ℕ) → t < u → track c u ≡ []

pub unused_empty : (c : Tape) (u : ℕ) → tracks_used c ≤ u → track c u ≡ []
unused_empty [] u h = refl
unused_empty (x ∷ xs) zero h = go x (tracks_used xs) h
  where
    go : (x : List ℕ) (k : ℕ) → cond (ltb 0 k) (suc k) (cond (ltb 0 (length x)) 1 0) ≤ 0 → x ≡ []
    go [] k l = refl
    go (y ∷ ys) k l = absurd (cond_both (ltb 0 k) (suc k) (cond (ltb 0 (suc (length ys))) 1 0) (λ z. z ≤ 0 → ⊥) (λ e q. omega arith) (λ e. cond_both (ltb 0 (suc (length ys))) 1 0 (λ z. z ≤ 0 → ⊥) (λ d q. omega arith) (λ d q. omega (arith, ltb-false 0 (suc (length ys)) d))) l)
unused_empty (x ∷ xs) (suc u) h = unused_empty xs u (go (tracks_used xs) h)
  where
    go : (k : ℕ) → cond (ltb 0 k) (suc k) (cond (ltb 0 (length x)) 1 0) ≤ suc u → k ≤ u
    go zero l = omega arith
    go (suc k) l = cond_both (ltb 0 (suc k)) (suc (suc k)) (cond (ltb 0 (length x)) 1 0) (λ z. z ≤ suc u → suc k ≤ u) (λ e q. omega arith) (λ e q. absurd (omega (arith, ltb-false 0 (suc k) e))) l

pub past-end_track : (c : Tape) → EmptyPast c (end_track c)
unfolding end_track
past-end_track c u h = unused_empty c u (omega arith)

pub end_place-is : (c : Tape) → end_place c ≡ length (track c (end_track c))
unfolding end_place
end_place-is c = refl

-- the last track with cells is where a recording goes on
tracks_used-is : (c : Tape) (t : ℕ) → 0 < length (track c t) → EmptyPast c t → tracks_used c ≡ suc t
tracks_used-is [] t h p = absurd (omega arith)
tracks_used-is (x ∷ xs) zero h p =
    let none : tracks_used xs ≡ 0 = empties xs (λ u. p (suc u) (omega arith)) in
    ap (λ (k : ℕ). cond (ltb 0 k) (suc k) (cond (ltb 0 (length x)) 1 0)) none ∙ cond-true _ _ _ (lt-ltb 0 (length x) h)
  where
    empties : (xs : Tape) → ((u : ℕ) → track xs u ≡ []) → tracks_used xs ≡ 0
    empties [] e = refl
    empties (y ∷ ys) e =
        ap (λ (k : ℕ). cond (ltb 0 k) (suc k) (cond (ltb 0 (length y)) 1 0)) (empties ys (λ u. e (suc u))) ∙
        ap (λ (z : List ℕ). cond (ltb 0 (length z)) 1 0) (e 0)
tracks_used-is (x ∷ xs) (suc t) h p =
    ap (λ (k : ℕ). cond (ltb 0 k) (suc k) (cond (ltb 0 (length x)) 1 0)) (tracks_used-is xs t h (λ u l. p (suc u) (omega arith))) ∙ cond-true _ _ _ (lt-ltb 0 (suc t) (omega arith))

pub end_track-is : (c : Tape) (t : ℕ) → 0 < length (track c t) → EmptyPast c t → end_track c ≡ t
unfolding end_track
end_track-is c t h p = omega (arith, tracks_used-is c t h p)

-- what holds of a deck and its tape from a new deck on
abbrev pub Valid : ℕ → Tape → DeckState → Type 0
Valid capacity c deck_idle = Unit {0}
Valid capacity c (deck_recording s nothing_pending) = item_room ≤ capacity
Valid capacity c (deck_recording s (item_pending x)) = (item_room ≤ capacity) × (finish_room + end_place c ≤ capacity) × (copy_tail ≤ end_place c) × Full x
Valid capacity c (deck_recording s (item_failed n)) = Unit {0}

-- a copy that a call put: past the end of its track, whole afterwards, with nothing on later tracks
abbrev pub New : Tape → Tape → CopyAt → Type 0
New c m f = (length (track c f.place.on) ≤ f.place.at) × Whole m f × EmptyPast c f.place.on

pub record Fine (capacity : ℕ) (c m : Tape) (o : CallOutcome) : Type 0 where
  pub ascending : Ascending o.puts
  pub new : (f : CopyAt) → In f o.puts → New c m f
  pub valid : Valid capacity m o.state

nothing : (capacity : ℕ) (c m : Tape) (o : CallOutcome) → o.puts ≡ [] → Valid capacity m o.state → Fine capacity c m o
nothing capacity c m o e v = record { ascending = subst Ascending (sym e) tt; new = λ f i. elim (subst (λ (ps : List CopyAt). In f ps) e i) [ ]; valid = v }

fine_declines : (capacity : ℕ) (c m : Tape) (k : ℕ) (s : DeckState) → Valid capacity c s → Grown c [] m → Fine capacity c m (declines k s)
fine_declines capacity c m k s v g = nothing capacity c m (declines k s) refl (subst (λ (x : Tape). Valid capacity x s) (sym g) v)

-- one run more on a track
pub longer_length : (r : Run) (c m : Tape) → Longer r c m → length (track m r.on) ≡ length (track c r.on) + length r.sent
longer_length r c m l = ap length l.is ∙ (length-append (track c r.on) l.added ∙ ap (λ (n : ℕ). length (track c r.on) + n) l.count)

pub head_most : (c : Tape) (t : ℕ) → copy_head (first_preamble c t) ≤ copy_head Long
head_most c t = cond_both (eqb (length (track c t)) 0) Long Elongated (λ p. copy_head p ≤ copy_head Long) (λ _. omega arith) (λ _. omega arith)

module _ (capacity : ℕ) (c : Tape) where
  -- one copy on a track with nothing past it
  pub start_grew : (m : Tape) (t : ℕ) (M : Numbered) → Full M.content → Longer (copy_run (first_preamble c t) (first_on capacity c t M)) c m → EmptyPast c t → (length (track m t) ≡ length (track c t) + copy_head (first_preamble c t) + copy_tail) × (end_track m ≡ t)
  start_grew m t M f l e =
      let grew : length (track m t) ≡ length (track c t) + copy_head (first_preamble c t) + copy_tail = longer_length (copy_run (first_preamble c t) (first_on capacity c t M)) c m l ∙ omega (arith, length-copy (preamble_ones (first_preamble c t)) t M f) in
      (grew, end_track-is m t (omega arith) (λ u k. l.others u (λ q. omega arith) ∙ e u k))

  fine_starts : (m : Tape) (s : RecordingNumbers) (t : ℕ) (M : Numbered) → Full M.content → item_room ≤ capacity → length (track c t) + item_room ≤ capacity → EmptyPast c t → Grown c (starts capacity c s t M).runs m → Fine capacity c m (starts capacity c s t M)
  fine_starts m s t M f big room e (n, l, g) =
      let l : Longer (copy_run (first_preamble c t) (first_on capacity c t M)) c m = subst (λ (x : Tape). Longer (copy_run (first_preamble c t) (first_on capacity c t M)) c x) (sym g) l in
      let w = start_grew m t M f l e in
      let ends : end_place m ≡ length (track c t) + copy_head (first_preamble c t) + copy_tail = end_place-is m ∙ (ap (λ (u : ℕ). length (track m u)) w.1 ∙ w.0) in
      let most = head_most c t in
      let a : New c m (first_on capacity c t M) = (omega arith, omega (arith, w.0), e) in
      record {
        ascending = (tt, tt);
        new = λ x i. split x (first_on capacity c t M) [] i (λ p. subst (New c m) (sym p) a) (λ j. elim j [ ]);
        valid = (big, omega arith, omega arith, f);
      }

  pub length-rewritten_with : (at to : ℕ → TapePlace) (N M : Numbered) (j k : ℕ) → length (rewritten_with at to N M j k) ≡ k + k
  length-rewritten_with at to N M j zero = refl
  length-rewritten_with at to N M j (suc k) = ap (λ (x : ℕ). suc (suc x)) (length-rewritten_with at to N M (suc j) k) ∙ omega arith

  pub length-rewritten : (at : ℕ → TapePlace) (N : Numbered) (j k : ℕ) → length (rewritten at N j k) ≡ k
  length-rewritten at N j zero = refl
  length-rewritten at N j (suc k) = ap suc (length-rewritten at N (suc j) k)

  pub laid_pairs : (N : CopyAt) (M : Numbered) (m : ℕ) → Full N.item.content → Full M.content → Laid (end_track c) (end_place c) 0 (pair_puts capacity c N M m)
  laid_pairs N M m f g = (
    refl,
    g,
    laid_rewritten_with (end_track c) (end_place c) (pending_at capacity c) (new_at capacity c) N.item M 1 0 (min m more_writings)
        (λ i. let e : 2 * suc i - 1 ≡ suc (i + i) = omega arith in ap (copy_place (end_track c) (end_place c)) e)
        (λ i. let e : 2 * suc i ≡ suc (suc (i + i)) = omega arith in ap (copy_place (end_track c) (end_place c)) e) refl f g,
  )

  pub laid_finish : (N : CopyAt) (m : ℕ) → Full N.item.content → Laid (end_track c) (end_place c) 0 (finish_puts capacity c N m)
  laid_finish N m f = laid_rewritten (end_track c) (end_place c) (alone_at capacity c) N.item 0 (min (suc m) more_writings) (λ j. let e : suc j - 1 ≡ j = omega arith in ap (copy_place (end_track c) (end_place c)) e) f

  -- copies laid from the end of their track, once they are sent
  laid_new : (fs : List CopyAt) (e : Tape) → Laid (end_track c) (end_place c) 0 fs → end_place c + length fs * normal_copy ≤ length (track e (end_track c)) → (f : CopyAt) → In f fs → New c e f
  laid_new fs e l h f i =
      let w = in_laid (end_track c) (end_place c) 0 f fs l i in
      let here : f.place.on ≡ end_track c = w.0 in (
        subst (λ (u : ℕ). length (track c u) ≤ f.place.at) (sym here) (omega (arith, w.1, end_place-is c)),
        subst (λ (u : ℕ). f.place.at + body_cells ≤ length (track e u)) (sym here) (omega (arith, w.2)),
        subst (λ (u : ℕ). EmptyPast c u) (sym here) (past-end_track c),
      )

  -- what pairs leave: the track's length, and that it is still the last
  pub pairs_grew : (m : Tape) (N : CopyAt) (M : Numbered) (k : ℕ) → Full N.item.content → Full M.content → Grown c (copy_runs (pair_puts capacity c N M k)) m → (length (track m (end_track c)) ≡ end_place c + suc (min k more_writings + min k more_writings) * normal_copy) × (end_track m ≡ end_track c)
  pairs_grew m N M k f g h =
      let w = grow_laid (end_track c) (end_place c) 0 (pair_puts capacity c N M k) c m (laid_pairs N M k f g) (sym (end_place-is c) ∙ omega arith) h in
      let count : length (pair_puts capacity c N M k) ≡ suc (min k more_writings + min k more_writings) = ap suc (length-rewritten_with (pending_at capacity c) (new_at capacity c) N.item M 1 (min k more_writings)) in
      let grew : length (track m (end_track c)) ≡ end_place c + suc (min k more_writings + min k more_writings) * normal_copy = w.0 ∙ ap (λ (n : ℕ). end_place c + (0 + n) * normal_copy) count ∙ omega arith in
      (grew, end_track-is m (end_track c) (omega arith) (λ u l. w.1 u (λ q. omega arith) ∙ past-end_track c u l))

  fine_follows : (m : Tape) (s : RecordingNumbers) (N : CopyAt) (M : Numbered) (k : ℕ) → Full N.item.content → Full M.content → item_room ≤ capacity → end_place c + item_room ≤ capacity → Grown c (follows capacity c s N M k).runs m → Fine capacity c m (follows capacity c s N M k)
  fine_follows m s N M k f1 f2 big room = cond_both (ltb k most_writings) _ _ (λ o. Grown c o.runs m → Fine capacity c m o) good bad
    where
      new : Grown c (copy_runs (pair_puts capacity c N M k)) m → (x : CopyAt) → In x (pair_puts capacity c N M k) → New c m x
      new g =
          let w = pairs_grew m N M k f1 f2 g in
          laid_new (pair_puts capacity c N M k) m (laid_pairs N M k f1 f2) (omega (arith, w.0, ap suc (length-rewritten_with (pending_at capacity c) (new_at capacity c) N.item M 1 (min k more_writings))))

      good : ltb k most_writings ≡ true → Grown c (copy_runs (pair_puts capacity c N M k)) m → Fine capacity c m (accepts s M (copy_runs (pair_puts capacity c N M k)) (pair_puts capacity c N M k))
      good e g =
          let w = pairs_grew m N M k f1 f2 g in
          let ends : end_place m ≡ end_place c + suc (min k more_writings + min k more_writings) * normal_copy = end_place-is m ∙ (ap (λ (u : ℕ). length (track m u)) w.1 ∙ w.0) in
          record { ascending = laid_ascending (end_track c) (end_place c) 0 (pair_puts capacity c N M k) (laid_pairs N M k f1 f2); new = new g; valid = (big, omega arith, omega arith, f2) }

      bad : ltb k most_writings ≡ false → Grown c (copy_runs (pair_puts capacity c N M k)) m → Fine capacity c m (fails s N.item.number (copy_runs (pair_puts capacity c N M k)) (pair_puts capacity c N M k))
      bad e g = record { ascending = laid_ascending (end_track c) (end_place c) 0 (pair_puts capacity c N M k) (laid_pairs N M k f1 f2); new = new g; valid = tt }

  -- the ones that may follow on the same track
  ones_grew : (t : ℕ) (b : Bool) (a m : Tape) → Grown a (cond b (run t (ones closing_ones) ∷ []) []) m → (length (track a t) ≤ length (track m t)) × ((u : ℕ) → (u ≡ t → ⊥) → track m u ≡ track a u)
  ones_grew t true a m (n, l, g) =
      let l : Longer (run t (ones closing_ones)) a m = subst (λ (x : Tape). Longer (run t (ones closing_ones)) a x) (sym g) l in
      (omega (arith, longer_length (run t (ones closing_ones)) a m l), l.others)
  ones_grew t false a m g = (omega (arith, ap (λ (x : Tape). length (track x t)) g), λ u d. ap (λ (x : Tape). track x u) g)

  pub finish_grew : (m : Tape) (N : CopyAt) (k : ℕ) → Full N.item.content → Grown c (finish_runs capacity c N k) m → (end_place c + length (finish_puts capacity c N k) * normal_copy ≤ length (track m (end_track c))) × ((u : ℕ) → (u ≡ end_track c → ⊥) → track m u ≡ track c u)
  finish_grew m N k f g =
      let (a, x, y) = grown_append (copy_runs (finish_puts capacity c N k)) (cond (ltb k most_writings) (run (end_track c) (ones closing_ones) ∷ []) []) c m g in
      let w = grow_laid (end_track c) (end_place c) 0 (finish_puts capacity c N k) c a (laid_finish N k f) (sym (end_place-is c) ∙ omega arith) x in
      let z = ones_grew (end_track c) (ltb k most_writings) a m y in
      (omega (arith, w.0, z.0), λ u d. z.1 u d ∙ w.1 u d)

  fine_finishes : (m : Tape) (s : RecordingNumbers) (N : CopyAt) (k : ℕ) → Full N.item.content → Grown c (finishes capacity c s N k).runs m → Fine capacity c m (finishes capacity c s N k)
  fine_finishes m s N k f g =
      record {
        ascending = laid_ascending (end_track c) (end_place c) 0 (finish_puts capacity c N k) (laid_finish N k f);
        new = laid_new (finish_puts capacity c N k) m (laid_finish N k f) (finish_grew m N k f g).0;
        valid = tt;
      }

  -- the new item's track after a change of track
  pub change_grew : (m : Tape) (N : CopyAt) (M : Numbered) (k : ℕ) → Full N.item.content → Full M.content → Grown c (finish_runs capacity c N k ++ (copy_run (first_preamble c (suc (end_track c))) (first_on capacity c (suc (end_track c)) M) ∷ [])) m → (end_place c + length (finish_puts capacity c N k) * normal_copy ≤ length (track m (end_track c))) × (length (track m (suc (end_track c))) ≡ copy_head Long + copy_tail) × (end_track m ≡ suc (end_track c))
  change_grew m N M k f1 f2 g =
      let (a, x, (n, l, y)) = grown_append (finish_runs capacity c N k) (copy_run (first_preamble c (suc (end_track c))) (first_on capacity c (suc (end_track c)) M) ∷ []) c m g in
      let l : Longer (copy_run (first_preamble c (suc (end_track c))) (first_on capacity c (suc (end_track c)) M)) a m = subst (λ (z : Tape). Longer (copy_run (first_preamble c (suc (end_track c))) (first_on capacity c (suc (end_track c)) M)) a z) (sym y) l in
      let w = finish_grew a N k f1 x in
      let empty : track c (suc (end_track c)) ≡ [] = past-end_track c (suc (end_track c)) (omega arith) in
      let next : track a (suc (end_track c)) ≡ [] = w.1 (suc (end_track c)) (λ q. omega arith) ∙ empty in
      let long : copy_head (first_preamble c (suc (end_track c))) ≡ copy_head Long = ap (λ (z : List ℕ). copy_head (cond (eqb (length z) 0) Long Elongated)) empty in
      let stays : track m (end_track c) ≡ track a (end_track c) = l.others (end_track c) (λ q. omega arith) in
      let grew : length (track m (suc (end_track c))) ≡ copy_head Long + copy_tail = longer_length (copy_run (first_preamble c (suc (end_track c))) (first_on capacity c (suc (end_track c)) M)) a m l ∙ omega (arith, ap length next, length-copy (preamble_ones (first_preamble c (suc (end_track c)))) (suc (end_track c)) M f2, long) in
      (omega (arith, w.0, ap length stays), grew, end_track-is m (suc (end_track c)) (omega arith) (λ u h. l.others u (λ q. omega arith) ∙ (w.1 u (λ q. omega arith) ∙ past-end_track c u (omega arith))))

  fine_changes : (m : Tape) (s : RecordingNumbers) (N : CopyAt) (M : Numbered) (k : ℕ) → Full N.item.content → Full M.content → item_room ≤ capacity → Grown c (changes_track capacity c s N M k).runs m → Fine capacity c m (changes_track capacity c s N M k)
  fine_changes m s N M k f1 f2 big = cond_both (ltb k most_writings) _ _ (λ o. Grown c o.runs m → Fine capacity c m o) good bad
    where
      good : ltb k most_writings ≡ true → Grown c (finish_runs capacity c N k ++ (copy_run (first_preamble c (suc (end_track c))) (first_on capacity c (suc (end_track c)) M) ∷ [])) m → Fine capacity c m (accepts s M (finish_runs capacity c N k ++ (copy_run (first_preamble c (suc (end_track c))) (first_on capacity c (suc (end_track c)) M) ∷ [])) (finish_puts capacity c N k ++ (first_on capacity c (suc (end_track c)) M ∷ [])))
      good e g =
          let w = change_grew m N M k f1 f2 g in
          let empty : track c (suc (end_track c)) ≡ [] = past-end_track c (suc (end_track c)) (omega arith) in
          let long : copy_head (first_preamble c (suc (end_track c))) ≡ copy_head Long = ap (λ (z : List ℕ). copy_head (cond (eqb (length z) 0) Long Elongated)) empty in
          let ends : end_place m ≡ copy_head Long + copy_tail = end_place-is m ∙ (ap (λ (u : ℕ). length (track m u)) w.2 ∙ w.1) in
          let M-new : New c m (first_on capacity c (suc (end_track c)) M) = (omega arith, omega (arith, w.1, long, ap length empty), λ u h. past-end_track c u (omega arith)) in
          let N-new = laid_new (finish_puts capacity c N k) m (laid_finish N k f1) w.0 in
          record {
            ascending = ascending_append (finish_puts capacity c N k) (first_on capacity c (suc (end_track c)) M ∷ []) (laid_ascending (end_track c) (end_place c) 0 (finish_puts capacity c N k) (laid_finish N k f1)) (tt, tt)
                (λ p q i j. split q (first_on capacity c (suc (end_track c)) M) [] j (λ r. inl (omega (arith, (in_laid (end_track c) (end_place c) 0 p (finish_puts capacity c N k) (laid_finish N k f1) i).0, ap (λ (z : CopyAt). z.place.on) r))) (λ z. elim z [ ]));
            new = λ p i. in_append p (finish_puts capacity c N k) (first_on capacity c (suc (end_track c)) M ∷ []) i (N-new p) (λ j. split p (first_on capacity c (suc (end_track c)) M) [] j (λ r. subst (New c m) (sym r) M-new) (λ z. elim z [ ]));
            valid = (big, omega arith, omega arith, f2);
          }

      bad : ltb k most_writings ≡ false → Grown c (finish_runs capacity c N k) m → Fine capacity c m (fails s N.item.number (finish_runs capacity c N k) (finish_puts capacity c N k))
      bad e g =
          record {
            ascending = laid_ascending (end_track c) (end_place c) 0 (finish_puts capacity c N k) (laid_finish N k f1);
            new = laid_new (finish_puts capacity c N k) m (laid_finish N k f1) (finish_grew m N k f1 g).0;
            valid = tt;
          }

  pub roomy : short_of_room capacity c ≡ false → end_place c + item_room ≤ capacity
  roomy e = omega (arith, ltb-false (capacity - end_place c) item_room e)

  next_empty : length (track c (suc (end_track c))) ≡ 0
  next_empty = ap length (past-end_track c (suc (end_track c)) (omega arith))

  fine_item : (m : Tape) (good : CopyAt → Bool) (s : RecordingNumbers) (p : RecordingPhase) (M : Numbered) → Full M.content → Valid capacity c (deck_recording s p) → Grown c (takes_item capacity c good s p M).runs m → Fine capacity c m (takes_item capacity c good s p M)
  fine_item m good s (item_failed n) M f v = λ g. nothing capacity c m (takes_item capacity c good s (item_failed n) M) refl tt
  fine_item m good s nothing_pending M f v =
      cond_both (eqb s.next number_limit) _ _ (λ o. Grown c o.runs m → Fine capacity c m o) (λ e. fine_declines capacity c m 13 (deck_recording s nothing_pending) v)
      (λ e. cond_both (short_of_room capacity c) _ _ (λ o. Grown c o.runs m → Fine capacity c m o)
      (λ t. cond_both (media_ends capacity c) _ _ (λ o. Grown c o.runs m → Fine capacity c m o) (λ l. fine_declines capacity c m 12 (deck_recording s nothing_pending) v) (λ l. fine_starts m s (suc (end_track c)) M f v (omega (arith, next_empty)) (λ u h. past-end_track c u (omega arith))))
      (λ t. fine_starts m s (end_track c) M f v (omega (arith, roomy t, end_place-is c)) (past-end_track c)))
  fine_item m good s (item_pending x) M f v =
      cond_both (eqb s.next number_limit) _ _ (λ o. Grown c o.runs m → Fine capacity c m o) (λ e. fine_declines capacity c m 13 (deck_recording s (item_pending x)) v)
      (λ e. cond_both (short_of_room capacity c) _ _ (λ o. Grown c o.runs m → Fine capacity c m o)
      (λ t. cond_both (media_ends capacity c) _ _ (λ o. Grown c o.runs m → Fine capacity c m o) (λ l. fine_declines capacity c m 12 (deck_recording s (item_pending x)) v)
      (λ l. cond_both (short_to_finish capacity c) _ _ (λ o. Grown c o.runs m → Fine capacity c m o) (λ z g. nothing capacity c m (fails s (s.next - 1) [] []) refl tt) (λ z. fine_changes m s (pending_copy c s x) M (alone_failures capacity c good (pending_copy c s x)) v.3 f v.0)))
      (λ t. fine_follows m s (pending_copy c s x) M (pair_failures capacity c good (pending_copy c s x)) v.3 f v.0 (roomy t)))

fine_begins : (capacity : ℕ) (c m : Tape) (r : ReplayState) (u : Option UnsoundOpening) → item_room ≤ capacity → Grown c (begins r u).runs m → Fine capacity c m (begins r u)
fine_begins capacity c m (expecting out n b) u big g = nothing capacity c m (begins (expecting out n b) u) refl big
fine_begins capacity c m (not_located out n p) u big g = nothing capacity c m (begins (not_located out n p) u) refl tt

pub fine : (r : ReplayProgress) (good : CopyAt → Bool) (capacity : ℕ) (c m : Tape) (s : DeckState) (call : DeckCall) → Valid capacity c s → Grown c (call_does r good capacity c s call).runs m → Fine capacity c m (call_does r good capacity c s call)
fine r good capacity c m deck_idle begin_call v = cond_both (ltb capacity item_room) _ _ (λ o. Grown c o.runs m → Fine capacity c m o) (λ e. fine_declines capacity c m 11 deck_idle tt) (λ e. fine_begins capacity c m r.state r.unsound (ltb-false capacity item_room e))
fine r good capacity c m (deck_recording s p) begin_call v = fine_declines capacity c m 16 (deck_recording s p) v
fine r good capacity c m deck_idle (write_call bs) v = fine_declines capacity c m 15 deck_idle tt
fine r good capacity c m (deck_recording s p) (write_call bs) v =
    cond_both (eqb (length bs) 512) _ _ (λ o. Grown c o.runs m → Fine capacity c m o) (λ e. fine_item capacity c m good s p (item_of s.next (Block bs)) (eqb-true (length bs) 512 e) v) (λ e. fine_declines capacity c m 1 (deck_recording s p) v)
fine r good capacity c m deck_idle mark_call v = fine_declines capacity c m 15 deck_idle tt
fine r good capacity c m (deck_recording s p) mark_call v = fine_item capacity c m good s p (item_of s.next Mark) tt v
fine r good capacity c m deck_idle stop_call v = fine_declines capacity c m 15 deck_idle tt
fine r good capacity c m (deck_recording s nothing_pending) stop_call v = λ g. nothing capacity c m (stop_does capacity c good (deck_recording s nothing_pending)) refl tt
fine r good capacity c m (deck_recording s (item_failed n)) stop_call v = λ g. nothing capacity c m (stop_does capacity c good (deck_recording s (item_failed n))) refl tt
fine r good capacity c m (deck_recording s (item_pending x)) stop_call v =
    cond_both (short_to_finish capacity c) _ _ (λ o. Grown c o.runs m → Fine capacity c m o) (λ z g. nothing capacity c m (closes capacity c (unwritable (s.next - 1)) [] []) refl tt) (λ z. fine_finishes capacity c m s (pending_copy c s x) (alone_failures capacity c good (pending_copy c s x)) v.3)
