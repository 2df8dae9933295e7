-- What a call sends has its track, and room there.
use Rattle.std.proofs.Common.{◌≡◌, ℕ, suc, ◌+◌, ◌*◌, ◌<◌, ◌≤◌, min, Bool, true, false, cond, eqb, ltb, leb, List, [], ◌∷◌, ◌++◌, length, sym, refl, ap, ◌∙◌, subst, inl, inr, append_assoc, append-nil, arith}
use Rattle.std.proofs.lemmas.Bool.{leb-false, eqb-true, cond_both, cases_lt}
use Rattle.qic24.specs.Copy.{Numbered, ones, preamble_ones}
use Rattle.qic24.specs.declared.item.Content.TheVariants.{Block, Mark}
use Rattle.qic24.specs.declared.layout.Preamble.TheVariants.{Normal}
use Rattle.tape.specs.Tape.{Tape, track, Run, run}
use Rattle.replay.specs.Copies.{CopyAt}
use Rattle.replay.specs.declared.place.TapePlace.{TapePlace}
use Rattle.replay.specs.Replay.{ReplayState, expecting, not_located, ReplayProgress}
use Rattle.deck.specs.Measures.{normal_copy, closing_ones, most_writings, more_writings, item_room, finish_room, number_limit}
use Rattle.deck.specs.Calls.{DeckCall, begin_call, write_call, mark_call, stop_call, AnsweredCall, item_of}
use Rattle.deck.specs.Deck.{RecordingPhase, nothing_pending, item_pending, item_failed, RecordingNumbers, DeckState, deck_idle, deck_recording, CallOutcome, copy_run, copy_runs, first_preamble, tracks_used, end_track, end_place, pending_copy, finish_puts, finish_runs, first_on, starts, pair_puts, follows, changes_track, short_of_room, short_to_finish, media_ends, alone_failures, pair_failures, takes_item, begins, call_does}
use Rattle.deck.specs.CallsMade.{Made, no_call, call_more}
use Rattle.deck.specs.Recorded.{AllFit, RunsFit}
use Rattle.deck.proofs.CopyLengths.{Full, length-copy, length-ones}
use Rattle.deck.proofs.LaidCopies.{Laid}
use Rattle.deck.proofs.CallRuns.{Valid, past-end_track, end_place-is, longer_length, head_most, laid_pairs, laid_finish, length-rewritten, length-rewritten_with, roomy}
use Rattle.deck.proofs.MadeCalls.{made_valid, made_extends}

-- the track where a recording goes on is one of the tape's
pub used_few : (c : Tape) → tracks_used c ≤ length c
used_few [] = omega arith
used_few (x ∷ xs) =
    cond_both (ltb 0 (tracks_used xs)) _ _ (λ n. n ≤ suc (length xs)) (λ _. omega (arith, used_few xs))
    (λ _. cond_both (ltb 0 (length x)) 1 0 (λ n. n ≤ suc (length xs)) (λ _. omega arith) (λ _. omega arith))

end_track-there : (c : Tape) → 1 ≤ length c → end_track c < length c
unfolding end_track
end_track-there c h = omega (arith, used_few c)

-- copies one after the other on a track, and then the rest
fit_laid : (room t from k : ℕ) (fs : List CopyAt) (c : Tape) (rest : List Run) → Laid t from k fs → t < length c → length (track c t) ≡ from + k * normal_copy → from + (k + length fs) * normal_copy ≤ room →
    ((m : Tape) → length m ≡ length c → length (track m t) ≡ from + (k + length fs) * normal_copy → ((u : ℕ) → (u ≡ t → ⊥) → track m u ≡ track c u) → AllFit room m rest) → AllFit room c (copy_runs fs ++ rest)
fit_laid room t from k [] c rest l h e r then = then c refl (e ∙ omega arith) (λ u d. refl)
fit_laid room t from k (f ∷ fs) c rest l h e r then =
    let on-t : f.place.on ≡ t = ap (λ (p : TapePlace). p.on) l.0 in
    let size = length-copy (preamble_ones Normal) f.place.on f.item l.1 in
    let here : length (track c f.place.on) ≡ from + k * normal_copy = ap (λ (u : ℕ). length (track c u)) on-t ∙ e in (
      omega arith,
      omega arith,
      λ m a.
          let grew : length (track m t) ≡ from + suc k * normal_copy = ap (λ (u : ℕ). length (track m u)) (sym on-t) ∙ (longer_length (copy_run Normal f) c m a ∙ omega arith) in
          fit_laid room t from (suc k) fs m rest l.2 (omega (arith, a.tracks)) grew (omega arith)
          (λ n p q o. then n (p ∙ a.tracks) (q ∙ omega arith) (λ u d. o u d ∙ a.others u (λ z. d (z ∙ on-t)))),
    )

fits_alone : (room : ℕ) (c : Tape) (r : Run) → r.on < length c → length (track c r.on) + length r.sent ≤ room → AllFit room c (r ∷ [])
fits_alone room c r h k = (h, k, λ m l. tt)

module _ (room : ℕ) (c : Tape) (there : 1 ≤ length c) where
  fit_starts : (s : RecordingNumbers) (t : ℕ) (M : Numbered) → Full M.content → t < length c → length (track c t) + item_room ≤ room → AllFit room c (starts room c s t M).runs
  fit_starts s t M f h k = fits_alone room c (copy_run (first_preamble c t) (first_on room c t M)) h (omega (arith, length-copy (preamble_ones (first_preamble c t)) t M f, head_most c t))

  fit_pairs : (N : CopyAt) (M : Numbered) (k : ℕ) → Full N.item.content → Full M.content → end_place c + item_room ≤ room → AllFit room c (copy_runs (pair_puts room c N M k))
  fit_pairs N M k f g h =
      let count : length (pair_puts room c N M k) ≡ suc (min k more_writings + min k more_writings) = ap suc (length-rewritten_with room c _ _ N.item M 1 (min k more_writings)) in
      subst (AllFit room c) (append-nil (copy_runs (pair_puts room c N M k)))
      (fit_laid room (end_track c) (end_place c) 0 (pair_puts room c N M k) c [] (laid_pairs room c N M k f g) (end_track-there c there) (sym (end_place-is c) ∙ omega arith) (omega arith) (λ m p q o. tt))

  fit_follows : (s : RecordingNumbers) (N : CopyAt) (M : Numbered) (k : ℕ) → Full N.item.content → Full M.content → end_place c + item_room ≤ room → AllFit room c (follows room c s N M k).runs
  fit_follows s N M k f g h = cond_both (ltb k most_writings) _ _ (λ (o : CallOutcome). AllFit room c o.runs) (λ _. fit_pairs N M k f g h) (λ _. fit_pairs N M k f g h)

  -- the pending item is finished, and then the rest
  fit_finish : (N : CopyAt) (k : ℕ) (rest : List Run) → Full N.item.content → finish_room + end_place c ≤ room → ((m : Tape) → length m ≡ length c → ((u : ℕ) → (u ≡ end_track c → ⊥) → track m u ≡ track c u) → AllFit room m rest) → AllFit room c (finish_runs room c N k ++ rest)
  fit_finish N k rest f h then =
      let count : length (finish_puts room c N k) ≡ min (suc k) more_writings = length-rewritten room c _ N.item 1 (min (suc k) more_writings) in
      subst (AllFit room c) (sym (append_assoc (copy_runs (finish_puts room c N k)) (cond (ltb k most_writings) (run (end_track c) (ones closing_ones) ∷ []) []) rest))
      (fit_laid room (end_track c) (end_place c) 0 (finish_puts room c N k) c (cond (ltb k most_writings) (run (end_track c) (ones closing_ones) ∷ []) [] ++ rest) (laid_finish room c N k f) (end_track-there c there) (sym (end_place-is c) ∙ omega arith) (omega arith)
      (λ m p q o. cond_both (ltb k most_writings) _ _ (λ (rs : List Run). AllFit room m (rs ++ rest))
      (λ _. (omega (arith, end_track-there c there), omega (arith, length-ones closing_ones), λ n a. then n (a.tracks ∙ p) (λ u d. a.others u d ∙ o u d))) (λ _. then m p o)))

  fit_changes : (s : RecordingNumbers) (N : CopyAt) (M : Numbered) (k : ℕ) → Full N.item.content → Full M.content → finish_room + end_place c ≤ room → item_room ≤ room → suc (end_track c) < length c → AllFit room c (changes_track room c s N M k).runs
  fit_changes s N M k f g h big next =
      cond_both (ltb k most_writings) _ _ (λ (o : CallOutcome). AllFit room c o.runs)
      (λ _. fit_finish N k (copy_run (first_preamble c (suc (end_track c))) (first_on room c (suc (end_track c)) M) ∷ []) f h
      (λ m p o. fits_alone room m (copy_run (first_preamble c (suc (end_track c))) (first_on room c (suc (end_track c)) M)) (omega arith)
      (omega (arith, ap length (o (suc (end_track c)) (λ q. omega arith) ∙ past-end_track c (suc (end_track c)) (omega arith)), length-copy (preamble_ones (first_preamble c (suc (end_track c)))) (suc (end_track c)) M g, head_most c (suc (end_track c))))))
      (λ _. subst (AllFit room c) (append-nil (finish_runs room c N k)) (fit_finish N k [] f h (λ m p o. tt)))

  -- there is a next track
  goes_on : media_ends room c ≡ false → suc (end_track c) < length c
  goes_on e = go (ltb room item_room) e
    where
      go : (b : Bool) → cond b true (leb (length c) (suc (end_track c))) ≡ false → suc (end_track c) < length c
      go true e = absurd (let z : ◌≡◌ {A = ℕ} 0 1 = cc in omega arith)
      go false e = leb-false (length c) (suc (end_track c)) e

  abbrev Fits : CallOutcome → Type 0
  Fits o = AllFit room c o.runs

  fit_item : (good : CopyAt → Bool) (s : RecordingNumbers) (p : RecordingPhase) (M : Numbered) → Full M.content → Valid room c (deck_recording s p) → Fits (takes_item room c good s p M)
  fit_item good s (item_failed n) M f v = tt
  fit_item good s nothing_pending M f v =
      cond_both (eqb s.next number_limit) _ _ Fits (λ _. tt)
      (λ _. cond_both (short_of_room room c) _ _ Fits
      (λ _. cond_both (media_ends room c) _ _ Fits (λ _. tt) (λ e. fit_starts s (suc (end_track c)) M f (goes_on e) (omega (arith, v, ap length (past-end_track c (suc (end_track c)) (omega arith))))))
      (λ e. fit_starts s (end_track c) M f (end_track-there c there) (omega (arith, roomy room c e, end_place-is c))))
  fit_item good s (item_pending x) M f v =
      cond_both (eqb s.next number_limit) _ _ Fits (λ _. tt)
      (λ _. cond_both (short_of_room room c) _ _ Fits
      (λ _. cond_both (media_ends room c) _ _ Fits (λ _. tt)
      (λ e. cond_both (short_to_finish room c) _ _ Fits (λ _. tt) (λ _. fit_changes s (pending_copy c s x) M (alone_failures room c good (pending_copy c s x)) v.3 f v.1 v.0 (goes_on e))))
      (λ e. fit_follows s (pending_copy c s x) M (pair_failures room c good (pending_copy c s x)) v.3 f (roomy room c e)))

  fit_begins : (r : ReplayProgress) → Fits (begins r.state r.unsound)
  fit_begins r = go r.state
    where
      go : (x : ReplayState) → AllFit room c (begins x r.unsound).runs
      go (expecting out n b) = tt
      go (not_located out n p) = tt

  fit : (r : ReplayProgress) (good : CopyAt → Bool) (s : DeckState) (call : DeckCall) → Valid room c s → Fits (call_does r good room c s call)
  fit r good deck_idle begin_call v = cond_both (ltb room item_room) _ _ Fits (λ _. tt) (λ _. fit_begins r)
  fit r good (deck_recording s p) begin_call v = tt
  fit r good deck_idle (write_call bs) v = tt
  fit r good (deck_recording s p) (write_call bs) v = cond_both (eqb (length bs) 512) _ _ Fits (λ e. fit_item good s p (item_of s.next (Block bs)) (eqb-true (length bs) 512 e) v) (λ _. tt)
  fit r good deck_idle mark_call v = tt
  fit r good (deck_recording s p) mark_call v = fit_item good s p (item_of s.next Mark) tt v
  fit r good deck_idle stop_call v = tt
  fit r good (deck_recording s nothing_pending) stop_call v = tt
  fit r good (deck_recording s (item_failed n)) stop_call v = tt
  fit r good (deck_recording s (item_pending x)) stop_call v =
      cond_both (short_to_finish room c) _ _ Fits (λ _. tt) (λ _. subst (AllFit room c) (append-nil (finish_runs room c (pending_copy c s x) (alone_failures room c good (pending_copy c s x)))) (fit_finish (pending_copy c s x) (alone_failures room c good (pending_copy c s x)) [] v.3 v.1 (λ m p o. tt)))

-- with no room no recording is opened
none-opened : (b : Tape) (ds : List AnsweredCall) (log : List CopyAt) (c : Tape) (s : DeckState) → Made 0 b deck_idle ds log c s → s ≡ deck_idle
none-opened b ds log c s no_call = refl
none-opened b ds log c s (call_more {ds = rest} {log = later} begin_call m g then) = none-opened m rest later c s then
none-opened b ds log c s (call_more {ds = rest} {log = later} (write_call bs) m g then) = none-opened m rest later c s then
none-opened b ds log c s (call_more {ds = rest} {log = later} mark_call m g then) = none-opened m rest later c s then
none-opened b ds log c s (call_more {ds = rest} {log = later} stop_call m g then) = none-opened m rest later c s then

nothing_sent : (c : Tape) (r : ReplayProgress) (good : CopyAt → Bool) (call : DeckCall) → AllFit 0 c (call_does r good 0 c deck_idle call).runs
nothing_sent c r good begin_call = tt
nothing_sent c r good (write_call bs) = tt
nothing_sent c r good mark_call = tt
nothing_sent c r good stop_call = tt

pub runs_fit : RunsFit
runs_fit room b h ds log c s d r good call = elim (cases_lt 0 (length b)) [
  | inl l ↦ fit room c (omega (arith, (made_extends room b deck_idle ds log c s d).tracks)) r good s call (made_valid room b deck_idle ds log c s d tt)
  | inr l ↦
      let none : room ≡ 0 = h (omega arith) in
      let d' = subst (λ (n : ℕ). Made n b deck_idle ds log c s) none d in
      subst (λ (n : ℕ). AllFit n c (call_does r good n c s call).runs) (sym none) (subst (λ (z : DeckState). AllFit 0 c (call_does r good 0 c z call).runs) (sym (none-opened b ds log c s d')) (nothing_sent c r good call))
]
