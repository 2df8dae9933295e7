-- The copies that a call puts are those that it sends.
use Rattle.std.proofs.Common.{◌≡◌, ℕ, suc, ◌+◌, ◌*◌, ◌<◌, ◌≤◌, Bool, true, false, cond, eqb, ltb, List, [], ◌∷◌, ◌++◌, length, sym, refl, ap, ◌∙◌, subst, append_assoc, append-nil, arith}
use Rattle.std.proofs.lemmas.Bool.{eqb-true, ne_eqb, cond_both, cond-false}
use Rattle.qic24.specs.Copy.{Numbered, ones, preamble_ones}
use Rattle.qic24.specs.declared.item.Content.TheVariants.{Block, Mark}
use Rattle.qic24.specs.declared.layout.Preamble.TheVariants.{Normal, Elongated, Long}
use Rattle.tape.specs.Tape.{Tape, track, Run, run}
use Rattle.replay.specs.Copies.{CopyAt}
use Rattle.replay.specs.declared.place.TapePlace.{TapePlace}
use Rattle.replay.specs.Replay.{ReplayState, expecting, not_located, ReplayProgress}
use Rattle.deck.specs.Measures.{copy_tail, copy_head, normal_copy, closing_ones, most_writings, item_room, number_limit}
use Rattle.deck.specs.Calls.{DeckCall, begin_call, write_call, mark_call, stop_call, item_of}
use Rattle.deck.specs.Deck.{RecordingPhase, nothing_pending, item_pending, item_failed, RecordingNumbers, DeckState, deck_idle, deck_recording, CallOutcome, copy_run, copy_runs, first_preamble, end_track, end_place, pending_copy, finish_puts, finish_runs, first_on, starts, pair_puts, follows, changes_track, short_of_room, short_to_finish, media_ends, alone_failures, pair_failures, takes_item, begins, call_does}
use Rattle.deck.specs.Sending.{preamble_for, Carries, no_run, copy_sent, ones_sent, no_copy_yet, PutsWhatItSends}
use Rattle.deck.proofs.CopyLengths.{Full, length-copy}
use Rattle.deck.proofs.LaidCopies.{Laid}
use Rattle.deck.proofs.CallRuns.{Valid, past-end_track, end_place-is, longer_length, laid_pairs, laid_finish}
use Rattle.deck.proofs.MadeCalls.{made_valid}

-- on a track with cells a further copy has the normal preamble, on one without the long one
normal_there : (c : Tape) (t : ℕ) → 0 < length (track c t) → Normal ≡ preamble_for false c t
normal_there c t h = sym (cond-false (eqb (length (track c t)) 0) Long Normal (ne_eqb (length (track c t)) 0 (λ e. omega arith)))

-- copies one after the other on a track with cells, and then the rest
carry_laid : (t from k : ℕ) (fs : List CopyAt) (c : Tape) (rest : List Run) (more : List CopyAt) → Laid t from k fs → 0 < from → length (track c t) ≡ from + k * normal_copy →
    ((m : Tape) → ((u : ℕ) → (u ≡ t → ⊥) → track m u ≡ track c u) → Carries false m rest more) → Carries false c (copy_runs fs ++ rest) (fs ++ more)
carry_laid t from k [] c rest more l h e then = then c (λ u d. refl)
carry_laid t from k (f ∷ fs) c rest more l h e then =
    let on-t : f.place.on ≡ t = ap (λ (p : TapePlace). p.on) l.0 in
    let here : length (track c f.place.on) ≡ from + k * normal_copy = ap (λ (u : ℕ). length (track c u)) on-t ∙ e in
    copy_sent f Normal (normal_there c f.place.on (omega arith)) (omega (arith, ap (λ (p : TapePlace). p.at) l.0))
    (λ m a.
    let grew : length (track m t) ≡ from + suc k * normal_copy = ap (λ (u : ℕ). length (track m u)) (sym on-t) ∙ (longer_length (copy_run Normal f) c m a ∙ omega (arith, length-copy (preamble_ones Normal) f.place.on f.item l.1)) in
    carry_laid t from (suc k) fs m rest more l.2 h grew (λ n o. then n (λ u d. o u d ∙ a.others u (λ z. d (z ∙ on-t)))))

module _ (room : ℕ) (c : Tape) where
  carry_starts : (s : RecordingNumbers) (t : ℕ) (M : Numbered) → Carries true c (starts room c s t M).runs (starts room c s t M).puts
  carry_starts s t M = copy_sent (first_on room c t M) (first_preamble c t) refl refl (λ m l. no_run)

  carry_pairs : (N : CopyAt) (M : Numbered) (k : ℕ) → Full N.item.content → Full M.content → copy_tail ≤ end_place c → Carries false c (copy_runs (pair_puts room c N M k)) (pair_puts room c N M k)
  carry_pairs N M k f g h =
      let w = carry_laid (end_track c) (end_place c) 0 (pair_puts room c N M k) c [] [] (laid_pairs room c N M k f g) (omega arith) (sym (end_place-is c) ∙ omega arith) (λ m o. no_run) in
      subst (λ (ps : List CopyAt). Carries false c (copy_runs (pair_puts room c N M k)) ps) (append-nil (pair_puts room c N M k)) (subst (λ (rs : List Run). Carries false c rs (pair_puts room c N M k ++ [])) (append-nil (copy_runs (pair_puts room c N M k))) w)

  carry_follows : (s : RecordingNumbers) (N : CopyAt) (M : Numbered) (k : ℕ) → Full N.item.content → Full M.content → copy_tail ≤ end_place c → Carries false c (follows room c s N M k).runs (follows room c s N M k).puts
  carry_follows s N M k f g h = cond_both (ltb k most_writings) _ _ (λ (o : CallOutcome). Carries false c o.runs o.puts) (λ _. carry_pairs N M k f g h) (λ _. carry_pairs N M k f g h)

  -- the pending item is finished, and then the rest
  carry_finish : (N : CopyAt) (k : ℕ) (rest : List Run) (more : List CopyAt) → Full N.item.content → copy_tail ≤ end_place c → ((m : Tape) → ((u : ℕ) → (u ≡ end_track c → ⊥) → track m u ≡ track c u) → Carries false m rest more) → Carries false c (finish_runs room c N k ++ rest) (finish_puts room c N k ++ more)
  carry_finish N k rest more f h then =
      subst (λ (rs : List Run). Carries false c rs (finish_puts room c N k ++ more)) (sym (append_assoc (copy_runs (finish_puts room c N k)) (cond (ltb k most_writings) (run (end_track c) (ones closing_ones) ∷ []) []) rest))
      (carry_laid (end_track c) (end_place c) 0 (finish_puts room c N k) c (cond (ltb k most_writings) (run (end_track c) (ones closing_ones) ∷ []) [] ++ rest) more (laid_finish room c N k f) (omega arith) (sym (end_place-is c) ∙ omega arith)
      (λ m o. cond_both (ltb k most_writings) _ _ (λ (rs : List Run). Carries false m (rs ++ rest) more) (λ _. ones_sent (end_track c) (λ n a. then n (λ u d. a.others u d ∙ o u d))) (λ _. then m o)))

  carry_finished : (N : CopyAt) (k : ℕ) → Full N.item.content → copy_tail ≤ end_place c → Carries false c (finish_runs room c N k) (finish_puts room c N k)
  carry_finished N k f h =
      subst (λ (ps : List CopyAt). Carries false c (finish_runs room c N k) ps) (append-nil (finish_puts room c N k)) (subst (λ (rs : List Run). Carries false c rs (finish_puts room c N k ++ [])) (append-nil (finish_runs room c N k)) (carry_finish N k [] [] f h (λ m o. no_run)))

  carry_changes : (s : RecordingNumbers) (N : CopyAt) (M : Numbered) (k : ℕ) → Full N.item.content → copy_tail ≤ end_place c → Carries false c (changes_track room c s N M k).runs (changes_track room c s N M k).puts
  carry_changes s N M k f h =
      cond_both (ltb k most_writings) _ _ (λ (o : CallOutcome). Carries false c o.runs o.puts)
      (λ _. carry_finish N k (copy_run (first_preamble c (suc (end_track c))) (first_on room c (suc (end_track c)) M) ∷ []) (first_on room c (suc (end_track c)) M ∷ []) f h
      (λ m o.
      let empty : track c (suc (end_track c)) ≡ [] = past-end_track c (suc (end_track c)) (omega arith) in
      let next : track m (suc (end_track c)) ≡ track c (suc (end_track c)) = o (suc (end_track c)) (λ q. omega arith) in
      let long : first_preamble c (suc (end_track c)) ≡ Long = ap (λ (z : List ℕ). cond (eqb (length z) 0) Long Elongated) empty in
      copy_sent (first_on room c (suc (end_track c)) M) (first_preamble c (suc (end_track c)))
      (long ∙ sym (ap (λ (z : List ℕ). cond (eqb (length z) 0) Long Normal) (next ∙ empty))) (ap (λ (z : List ℕ). length z + copy_head (first_preamble c (suc (end_track c)))) (sym next)) (λ n l. no_run)))
      (λ _. carry_finished N k f h)

  abbrev Sent : Bool → CallOutcome → Type 0
  Sent first o = Carries first c o.runs o.puts

  carry_item : (good : CopyAt → Bool) (s : RecordingNumbers) (p : RecordingPhase) (M : Numbered) → Full M.content → Valid room c (deck_recording s p) → Sent (no_copy_yet (deck_recording s p)) (takes_item room c good s p M)
  carry_item good s (item_failed n) M f v = no_run
  carry_item good s nothing_pending M f v =
      cond_both (eqb s.next number_limit) _ _ (Sent true) (λ _. no_run)
      (λ _. cond_both (short_of_room room c) _ _ (Sent true) (λ _. cond_both (media_ends room c) _ _ (Sent true) (λ _. no_run) (λ _. carry_starts s (suc (end_track c)) M)) (λ _. carry_starts s (end_track c) M))
  carry_item good s (item_pending x) M f v =
      cond_both (eqb s.next number_limit) _ _ (Sent false) (λ _. no_run)
      (λ _. cond_both (short_of_room room c) _ _ (Sent false)
      (λ _. cond_both (media_ends room c) _ _ (Sent false) (λ _. no_run)
      (λ _. cond_both (short_to_finish room c) _ _ (Sent false) (λ _. no_run) (λ _. carry_changes s (pending_copy c s x) M (alone_failures room c good (pending_copy c s x)) v.3 v.2)))
      (λ _. carry_follows s (pending_copy c s x) M (pair_failures room c good (pending_copy c s x)) v.3 f v.2))

  carry_begins : (r : ReplayProgress) → Sent false (begins r.state r.unsound)
  carry_begins r = go r.state
    where
      go : (x : ReplayState) → Carries false c (begins x r.unsound).runs (begins x r.unsound).puts
      go (expecting out n b) = no_run
      go (not_located out n p) = no_run

  pub carry : (r : ReplayProgress) (good : CopyAt → Bool) (s : DeckState) (call : DeckCall) → Valid room c s → Sent (no_copy_yet s) (call_does r good room c s call)
  carry r good deck_idle begin_call v = cond_both (ltb room item_room) _ _ (Sent false) (λ _. no_run) (λ _. carry_begins r)
  carry r good (deck_recording s p) begin_call v = no_run
  carry r good deck_idle (write_call bs) v = no_run
  carry r good (deck_recording s p) (write_call bs) v =
      cond_both (eqb (length bs) 512) _ _ (Sent (no_copy_yet (deck_recording s p))) (λ e. carry_item good s p (item_of s.next (Block bs)) (eqb-true (length bs) 512 e) v) (λ _. no_run)
  carry r good deck_idle mark_call v = no_run
  carry r good (deck_recording s p) mark_call v = carry_item good s p (item_of s.next Mark) tt v
  carry r good deck_idle stop_call v = no_run
  carry r good (deck_recording s nothing_pending) stop_call v = no_run
  carry r good (deck_recording s (item_failed n)) stop_call v = no_run
  carry r good (deck_recording s (item_pending x)) stop_call v =
      cond_both (short_to_finish room c) _ _ (Sent false) (λ _. no_run) (λ _. carry_finished (pending_copy c s x) (alone_failures room c good (pending_copy c s x)) v.3 v.2)

pub puts_what_it_sends : PutsWhatItSends
puts_what_it_sends room b ds log c s d r good call = carry room c r good s call (made_valid room b deck_idle ds log c s d tt)
