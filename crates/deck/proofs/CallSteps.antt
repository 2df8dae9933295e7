-- What each call does is one of the steps that the agreement rests on.
use Rattle.std.proofs.Common.{◌≡◌, ℕ, zero, suc, ◌+◌, ◌-◌, ◌<◌, ◌≤◌, min, Bool, true, false, cond, eqb, ltb, List, [], ◌∷◌, ◌++◌, length, sym, refl, ap, ◌∙◌, subst, arith}
use Rattle.std.proofs.lemmas.Bool.{ltb-true, ltb-false, eqb-true, cond_both}
use Rattle.qic24.specs.declared.item.Content.{Content}
use Rattle.qic24.specs.declared.item.Content.TheVariants.{Block, Mark}
use Rattle.tape.specs.Tape.{Tape, track, Grown}
use Rattle.deck.specs.Measures.{copy_head, most_writings, more_writings, number_limit}
use Rattle.replay.specs.Copies.{place_on, CopyAt, placed}
use Rattle.replay.specs.declared.place.TapePlace.{TapePlace}
use Rattle.deck.specs.Calls.{DeckCall, write_call, mark_call, stop_call, next_number, kept_total, refused_with, unwritable, AnsweredCall, item_of, handed_in}
use Rattle.deck.specs.Rewriting.{first_passing, rewritten, rewritten_with, writing_good, failed_writings}
use Rattle.deck.specs.Deck.{RecordingPhase, nothing_pending, item_pending, item_failed, RecordingNumbers, DeckState, deck_idle, deck_recording, CallOutcome, declines, copy_run, copy_runs, first_preamble, end_track, pending_copy, accepts, fails, alone_at, finish_puts, finish_runs, first_on, starts, pending_at, new_at, pair_puts, follows, changes_track, short_of_room, short_to_finish, media_ends, alone_failures, pair_failures, takes_item, write_does, mark_does, finishes, stop_does}
use Rattle.deck.proofs.Steps.{Standing, at_rest, ready, awaiting, unwritten, CallStep, declined, declined_again, first-item, followed, not_followed, changed_track, not_changed, closed_clear, closed_failed, finished, not_finished}
use Rattle.deck.proofs.CopyLengths.{Full}
use Rattle.deck.proofs.PendingCopies.{not_short, starts_pending, follows_pending, changes_pending}
use Rattle.deck.proofs.CallRuns.{Valid, past-end_track}

first-le : (n : ℕ) (test : ℕ → Bool) → first_passing n test ≤ n
first-le zero test = omega arith
first-le (suc n) test = go (test 0) (first-le n (λ k. test (suc k)))
  where
    go : (b : Bool) → first_passing n (λ k. test (suc k)) ≤ n → cond b 0 (suc (first_passing n (λ k. test (suc k)))) ≤ suc n
    go true h = omega arith
    go false h = omega arith

-- what stands between two calls, by the tape
abbrev pub standing : Tape → DeckState → Standing
standing c deck_idle = at_rest
standing c (deck_recording s nothing_pending) = ready s.next
standing c (deck_recording s (item_pending x)) = awaiting s.next (pending_copy c s x)
standing c (deck_recording s (item_failed n)) = unwritten n

-- a call that had this outcome
abbrev pub done : DeckCall → CallOutcome → AnsweredCall
done call o = record { call = call; answer = o.answer }

abbrev pub StepsBy : (CopyAt → Bool) → List CopyAt → Tape → Tape → DeckState → DeckCall → CallOutcome → Type 0
StepsBy good log c m s call o = CallStep good log (standing c s) (done call o) o.puts (standing m o.state)

module _ (good : CopyAt → Bool) (capacity : ℕ) (c m : Tape) (log : List CopyAt) where
  all_failed : (N : CopyAt) (at : ℕ → TapePlace) → ltb (failed_writings good N at) most_writings ≡ false → failed_writings good N at ≡ most_writings
  unfolding failed_writings
  all_failed N at e = omega (arith, ltb-false (failed_writings good N at) most_writings e, first-le most_writings (writing_good good N at))

  -- with nothing sent the tape is the same
  pub same_step : (s : DeckState) (d : AnsweredCall) → Grown c [] m → CallStep good log (standing c s) d [] (standing c s) → CallStep good log (standing c s) d [] (standing m s)
  same_step s d g k = subst (λ (x : Tape). CallStep good log (standing c s) d [] (standing x s)) (sym g) k

  pub declines_step : (s : DeckState) (call : DeckCall) (k : ℕ) → Grown c [] m → StepsBy good log c m s call (declines k s)
  declines_step s call k g = same_step s (record { call = call; answer = refused_with k }) g (declined k)

  starts_step : (s : RecordingNumbers) (t : ℕ) (x : Content) (call : DeckCall) → handed_in call s.next ≡ item_of s.next x ∷ [] → Full x → ((u : ℕ) → t < u → track c u ≡ []) → Grown c (starts capacity c s t (item_of s.next x)).runs m → StepsBy good log c m (deck_recording s nothing_pending) call (starts capacity c s t (item_of s.next x))
  starts_step s t x call h f past g =
      subst (λ (P : CopyAt). CallStep good log (standing c (deck_recording s nothing_pending)) (record { call = call; answer = next_number s.next }) (first_on capacity c t (item_of s.next x) ∷ []) (awaiting (suc s.next) P)) (sym (starts_pending capacity c m s x t f past g))
      (first-item (item_of s.next x) (place_on t (length (track c t) + copy_head (first_preamble c t))) h)

  follows_step : (s : RecordingNumbers) (y x : Content) (call : DeckCall) → handed_in call s.next ≡ item_of s.next x ∷ [] → Full y → Full x → (k : ℕ) → failed_writings good (pending_copy c s y) (pending_at capacity c) ≡ k → Grown c (follows capacity c s (pending_copy c s y) (item_of s.next x) k).runs m → StepsBy good log c m (deck_recording s (item_pending y)) call (follows capacity c s (pending_copy c s y) (item_of s.next x) k)
  follows_step s y x call h fy fx k t = cond_both (ltb k most_writings) _ _ (λ o. Grown c o.runs m → StepsBy good log c m (deck_recording s (item_pending y)) call o) yes_good no_good
    where
      yes_good : ltb k most_writings ≡ true → Grown c (copy_runs (pair_puts capacity c (pending_copy c s y) (item_of s.next x) k)) m → StepsBy good log c m (deck_recording s (item_pending y)) call (accepts s (item_of s.next x) (copy_runs (pair_puts capacity c (pending_copy c s y) (item_of s.next x) k)) (pair_puts capacity c (pending_copy c s y) (item_of s.next x) k))
      yes_good e g =
          let l = ltb-true k most_writings e in
          let all : k ≡ min k more_writings = omega arith in
          let p = follows_pending capacity c m s x (pending_copy c s y) k l fy fx g in
          subst (λ (P : CopyAt). CallStep good log (standing c (deck_recording s (item_pending y))) (record { call = call; answer = next_number s.next }) (pair_puts capacity c (pending_copy c s y) (item_of s.next x) k) (awaiting (suc s.next) P)) (sym p)
          (subst (λ (j : ℕ). CallStep good log (standing c (deck_recording s (item_pending y))) (record { call = call; answer = next_number s.next }) (placed (new_at capacity c 0) (item_of s.next x) ∷ rewritten_with (pending_at capacity c) (new_at capacity c) (item_of (s.next - 1) y) (item_of s.next x) 1 j) (awaiting (suc s.next) (placed (new_at capacity c k) (item_of s.next x)))) all
          (followed (item_of s.next x) (pending_at capacity c) (new_at capacity c) k h t l))

      no_good : ltb k most_writings ≡ false → Grown c (copy_runs (pair_puts capacity c (pending_copy c s y) (item_of s.next x) k)) m → StepsBy good log c m (deck_recording s (item_pending y)) call (fails s (s.next - 1) (copy_runs (pair_puts capacity c (pending_copy c s y) (item_of s.next x) k)) (pair_puts capacity c (pending_copy c s y) (item_of s.next x) k))
      no_good e g =
          let u = all_failed (pending_copy c s y) (pending_at capacity c) (ap (λ (z : ℕ). ltb z most_writings) t ∙ e) in
          let all : more_writings ≡ min k more_writings = omega (arith, t, u) in
          subst (λ (j : ℕ). CallStep good log (standing c (deck_recording s (item_pending y))) (record { call = call; answer = unwritable (s.next - 1) }) (placed (new_at capacity c 0) (item_of s.next x) ∷ rewritten_with (pending_at capacity c) (new_at capacity c) (item_of (s.next - 1) y) (item_of s.next x) 1 j) (unwritten (s.next - 1))) all
          (not_followed (item_of s.next x) (pending_at capacity c) (new_at capacity c) h u)

  failed_puts : (N : CopyAt) (k : ℕ) → k ≡ most_writings → rewritten (alone_at capacity c) N.item 1 more_writings ≡ finish_puts capacity c N k
  failed_puts N k t = let all : more_writings ≡ min (suc k) more_writings = omega arith in ap (rewritten (alone_at capacity c) N.item 1) all

  changes_step : (s : RecordingNumbers) (y x : Content) (call : DeckCall) → handed_in call s.next ≡ item_of s.next x ∷ [] → Full y → Full x → (k : ℕ) → failed_writings good (pending_copy c s y) (alone_at capacity c) ≡ k → Grown c (changes_track capacity c s (pending_copy c s y) (item_of s.next x) k).runs m → StepsBy good log c m (deck_recording s (item_pending y)) call (changes_track capacity c s (pending_copy c s y) (item_of s.next x) k)
  changes_step s y x call h fy fx k t = cond_both (ltb k most_writings) _ _ (λ o. Grown c o.runs m → StepsBy good log c m (deck_recording s (item_pending y)) call o) yes_good no_good
    where
      yes_good : ltb k most_writings ≡ true → Grown c (finish_runs capacity c (pending_copy c s y) k ++ (copy_run (first_preamble c (suc (end_track c))) (first_on capacity c (suc (end_track c)) (item_of s.next x)) ∷ [])) m → StepsBy good log c m (deck_recording s (item_pending y)) call (accepts s (item_of s.next x) (finish_runs capacity c (pending_copy c s y) k ++ (copy_run (first_preamble c (suc (end_track c))) (first_on capacity c (suc (end_track c)) (item_of s.next x)) ∷ [])) (finish_puts capacity c (pending_copy c s y) k ++ (first_on capacity c (suc (end_track c)) (item_of s.next x) ∷ [])))
      yes_good e g =
          let p = changes_pending capacity c m s x (pending_copy c s y) k fy fx g in
          subst (λ (P : CopyAt). CallStep good log (standing c (deck_recording s (item_pending y))) (record { call = call; answer = next_number s.next }) (finish_puts capacity c (pending_copy c s y) k ++ (first_on capacity c (suc (end_track c)) (item_of s.next x) ∷ [])) (awaiting (suc s.next) P)) (sym p)
          (changed_track (item_of s.next x) (alone_at capacity c) (place_on (suc (end_track c)) (length (track c (suc (end_track c))) + copy_head (first_preamble c (suc (end_track c))))) k h t (ltb-true k most_writings e))

      no_good : ltb k most_writings ≡ false → Grown c (finish_runs capacity c (pending_copy c s y) k) m → StepsBy good log c m (deck_recording s (item_pending y)) call (fails s (s.next - 1) (finish_runs capacity c (pending_copy c s y) k) (finish_puts capacity c (pending_copy c s y) k))
      no_good e g =
          let u = all_failed (pending_copy c s y) (alone_at capacity c) (ap (λ (z : ℕ). ltb z most_writings) t ∙ e) in
          subst (λ (ps : List CopyAt). CallStep good log (standing c (deck_recording s (item_pending y))) (record { call = call; answer = unwritable (s.next - 1) }) ps (unwritten (s.next - 1))) (failed_puts (pending_copy c s y) k (sym t ∙ u)) (not_changed (alone_at capacity c) u)

  item_step : (s : RecordingNumbers) (p : RecordingPhase) (x : Content) (call : DeckCall) → handed_in call s.next ≡ item_of s.next x ∷ [] → Full x → Valid capacity c (deck_recording s p) → Grown c (takes_item capacity c good s p (item_of s.next x)).runs m → StepsBy good log c m (deck_recording s p) call (takes_item capacity c good s p (item_of s.next x))
  item_step s (item_failed n) x call h f v = λ g. declined_again
  item_step s nothing_pending x call h f v =
      cond_both (eqb s.next number_limit) _ _ (λ o. Grown c o.runs m → StepsBy good log c m (deck_recording s nothing_pending) call o) (λ e. declines_step (deck_recording s nothing_pending) call 13)
      (λ e. cond_both (short_of_room capacity c) _ _ (λ o. Grown c o.runs m → StepsBy good log c m (deck_recording s nothing_pending) call o)
      (λ t. cond_both (media_ends capacity c) _ _ (λ o. Grown c o.runs m → StepsBy good log c m (deck_recording s nothing_pending) call o) (λ l. declines_step (deck_recording s nothing_pending) call 12) (λ l. starts_step s (suc (end_track c)) x call h f (λ u k. past-end_track c u (omega arith))))
      (λ t. starts_step s (end_track c) x call h f (past-end_track c)))
  item_step s (item_pending y) x call h f v =
      cond_both (eqb s.next number_limit) _ _ (λ o. Grown c o.runs m → StepsBy good log c m (deck_recording s (item_pending y)) call o) (λ e. declines_step (deck_recording s (item_pending y)) call 13)
      (λ e. cond_both (short_of_room capacity c) _ _ (λ o. Grown c o.runs m → StepsBy good log c m (deck_recording s (item_pending y)) call o)
      (λ t. cond_both (media_ends capacity c) _ _ (λ o. Grown c o.runs m → StepsBy good log c m (deck_recording s (item_pending y)) call o) (λ l. declines_step (deck_recording s (item_pending y)) call 12)
      (λ l. cond_both (short_to_finish capacity c) _ _ (λ o. Grown c o.runs m → StepsBy good log c m (deck_recording s (item_pending y)) call o) (λ z. absurd (not_short capacity c s y v z)) (λ z. changes_step s y x call h v.3 f (alone_failures capacity c good (pending_copy c s y)) refl)))
      (λ t. follows_step s y x call h v.3 f (pair_failures capacity c good (pending_copy c s y)) refl))

  pub write_step : (s : DeckState) (bs : List ℕ) → Valid capacity c s → Grown c (write_does capacity c good s bs).runs m → StepsBy good log c m s (write_call bs) (write_does capacity c good s bs)
  write_step deck_idle bs v = declines_step deck_idle (write_call bs) 15
  write_step (deck_recording s p) bs v =
      cond_both (eqb (length bs) 512) _ _ (λ o. Grown c o.runs m → StepsBy good log c m (deck_recording s p) (write_call bs) o) (λ e. item_step s p (Block bs) (write_call bs) refl (eqb-true (length bs) 512 e) v) (λ e. declines_step (deck_recording s p) (write_call bs) 1)

  pub mark_step : (s : DeckState) → Valid capacity c s → Grown c (mark_does capacity c good s).runs m → StepsBy good log c m s mark_call (mark_does capacity c good s)
  mark_step deck_idle v = declines_step deck_idle mark_call 15
  mark_step (deck_recording s p) v = item_step s p Mark mark_call refl tt v

  finishes_step : (s : RecordingNumbers) (y : Content) (k : ℕ) → failed_writings good (pending_copy c s y) (alone_at capacity c) ≡ k → StepsBy good log c m (deck_recording s (item_pending y)) stop_call (finishes capacity c s (pending_copy c s y) k)
  finishes_step s y k t = go (ltb k most_writings) refl
    where
      go : (b : Bool) → ltb k most_writings ≡ b → CallStep good log (standing c (deck_recording s (item_pending y))) (record { call = stop_call; answer = cond b (kept_total (s.next - s.first)) (unwritable (s.next - 1)) }) (finish_puts capacity c (pending_copy c s y) k) at_rest
      go true e = finished (alone_at capacity c) k t (ltb-true k most_writings e)
      go false e =
          let u = all_failed (pending_copy c s y) (alone_at capacity c) (ap (λ (z : ℕ). ltb z most_writings) t ∙ e) in
          subst (λ (ps : List CopyAt). CallStep good log (standing c (deck_recording s (item_pending y))) (record { call = stop_call; answer = unwritable (s.next - 1) }) ps at_rest) (failed_puts (pending_copy c s y) k (sym t ∙ u)) (not_finished (alone_at capacity c) u)

  pub stop_step : (s : DeckState) → Valid capacity c s → Grown c (stop_does capacity c good s).runs m → StepsBy good log c m s stop_call (stop_does capacity c good s)
  stop_step deck_idle v = declines_step deck_idle stop_call 15
  stop_step (deck_recording s nothing_pending) v = λ g. closed_clear
  stop_step (deck_recording s (item_failed n)) v = λ g. closed_failed
  stop_step (deck_recording s (item_pending y)) v = cond_both (short_to_finish capacity c) _ _ (λ o. Grown c o.runs m → StepsBy good log c m (deck_recording s (item_pending y)) stop_call o) (λ z. absurd (not_short capacity c s y v z)) (λ z g. finishes_step s y (alone_failures capacity c good (pending_copy c s y)) refl)
