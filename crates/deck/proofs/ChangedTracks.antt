-- The pending item finished, and the new one on the next track.
use Rattle.std.proofs.Common.{◌≡◌, ℕ, suc, ◌+◌, ◌*◌, ◌<◌, ◌≤◌, min, Bool, true, cond, eqb, ltb, List, [], ◌∷◌, ◌++◌, length, ap, ◌∙◌, subst, arith}
use Rattle.qic24.specs.Copy.{Numbered, copy, preamble_ones}
use Rattle.qic24.specs.declared.layout.Preamble.TheVariants.{Elongated, Long}
use Rattle.tape.specs.Tape.{track, Run, run, Sends}
use Rattle.deck.specs.Measures.{normal_copy, more_writings, most_writings, item_room}
use Rattle.deck.specs.Deck.{copy_run, first_preamble, first_on, end_track, end_place, alone_at, finish_puts, finish_runs}
use Rattle.deck.specs.LastCopies.{last_copy, failed_alone}
use Rattle.deck.proofs.CallRuns.{past-end_track, finish_grew}
use Rattle.deck.proofs.CopyLengths.{Full}
use Rattle.deck.proofs.LoneWritings.{length-rewritten, lone_whole, Finished}
use Rattle.deck.proofs.Media.{Medium, sends-append, of_cartridge, sent_grown, sent_extends, sent-room}
use Rattle.deck.proofs.Rewritings.{failures_later}

-- the first copy of a recording on the track u, which has the cells x
abbrev first_run : Numbered → ℕ → List ℕ → Run
first_run M u x = run u (copy (preamble_ones (cond (eqb (length x) 0) Long Elongated)) u M)

module _ {S : Type 0} (C : Medium S) (N M : Numbered) (full : Full N.content) (s : S) where
  -- finished, with what came of the writings by the tape then
  abbrev finished_by : S → List Run
  finished_by e = finish_runs (C.room s) (C.cells s) (last_copy (C.cells s) N) (failed_alone (C.room s) (C.cells s) (C.cells e) N)

  pub record Changed (t : ℕ) (e : S) : Type 0 where
    pub sent : Sends C.takes s (finished_by e ++ cond (ltb (failed_alone (C.room s) (C.cells s) (C.cells e) N) most_writings) (copy_run (first_preamble (C.cells s) (suc t)) (first_on (C.room s) (C.cells s) (suc t) M) ∷ []) []) e
    pub answer : true ≡ ltb (failed_alone (C.room s) (C.cells s) (C.cells e) N) most_writings

  next_same : (t : ℕ) (e : S) (good : Bool) → t ≡ end_track (C.cells s) → Finished C N s good e → track (C.cells e) (suc t) ≡ track (C.cells s) (suc t)
  next_same t e good on f =
      (finish_grew (C.room s) (C.cells s) (C.cells e) (last_copy (C.cells s) N) (failed_alone (C.room s) (C.cells s) (C.cells e) N) full (sent_grown C (finished_by e) s e f.sent)).1 (suc t) (λ q. omega arith)

  -- the next track is there, and has room
  pub next_fit : (t : ℕ) (e : S) (good : Bool) → t ≡ end_track (C.cells s) → suc t < length (C.cells s) → item_room ≤ C.room s → Finished C N s good e → (suc t < length (C.cells e)) × (item_room + length (track (C.cells e) (suc t)) ≤ C.room e)
  next_fit t e good on next roomy f =
      let none = next_same t e good on f ∙ past-end_track (C.cells s) (suc t) (omega arith) in
      (omega (arith, (sent_extends C (finished_by e) s e f.sent).tracks), omega (arith, ap length none, sent-room C (finished_by e) s e f.sent))

  pub changed_good : (t u : ℕ) (e e' : S) → t ≡ end_track (C.cells s) → u ≡ suc t → Finished C N s true e → Sends C.takes e (first_run M u (track (C.cells e) u) ∷ []) e' → Changed t e'
  changed_good t u e e' on next f x =
      let m = failed_alone (C.room s) (C.cells s) (C.cells e) N in
      let k = min (suc m) more_writings in
      let x' : Sends C.takes e (first_run M (suc t) (track (C.cells s) (suc t)) ∷ []) e' =
      subst (λ (r : Run). Sends C.takes e (r ∷ []) e') (ap (λ (v : ℕ). first_run M v (track (C.cells e) v)) next ∙ ap (first_run M (suc t)) (next_same t e true on f)) x in
      let grew = (finish_grew (C.room s) (C.cells s) (C.cells e) (last_copy (C.cells s) N) m full (sent_grown C (finished_by e) s e f.sent)).0 in
      let count : length (finish_puts (C.room s) (C.cells s) (last_copy (C.cells s) N) m) ≡ k = length-rewritten (C.room s) (C.cells s) N 1 k in
      let long : end_place (C.cells s) + k * normal_copy ≤ length (track (C.cells e) (end_track (C.cells s))) = subst (λ (n : ℕ). end_place (C.cells s) + n * normal_copy ≤ length (track (C.cells e) (end_track (C.cells s)))) count grew in
      let same : m ≡ failed_alone (C.room s) (C.cells s) (C.cells e') N = failures_later (last_copy (C.cells s) N) (alone_at (C.room s) (C.cells s)) (C.cells e) (C.cells e') (sent_extends C (first_run M (suc t) (track (C.cells s) (suc t)) ∷ []) e e' x') (of_cartridge C e')
      (λ i h l. lone_whole (C.room s) (C.cells s) N (C.cells e) i k long (omega arith) (omega arith)) in
      let answer : true ≡ ltb (failed_alone (C.room s) (C.cells s) (C.cells e') N) most_writings = f.answer ∙ ap (λ (n : ℕ). ltb n most_writings) same in
      let sent = subst (λ (n : ℕ). Sends C.takes s (finish_runs (C.room s) (C.cells s) (last_copy (C.cells s) N) n ++ (first_run M (suc t) (track (C.cells s) (suc t)) ∷ [])) e') same
      (sends-append C.takes (finished_by e) (first_run M (suc t) (track (C.cells s) (suc t)) ∷ []) s e e' f.sent x') in
      record { sent = subst (λ (b : Bool). Sends C.takes s (finished_by e' ++ cond b (first_run M (suc t) (track (C.cells s) (suc t)) ∷ []) []) e') answer sent; answer = answer }
