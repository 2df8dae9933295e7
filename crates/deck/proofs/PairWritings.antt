-- The new item after the pending one, and both again: what is sent so far, and that the pending one failed so far.
use Rattle.std.proofs.Common.{◌≡◌, ℕ, zero, suc, ◌+◌, ◌-◌, ◌*◌, ◌<◌, ◌≤◌, min, Bool, true, false, ltb, List, [], ◌∷◌, ◌++◌, length, sym, refl, ap, ◌∙◌, subst, arith}
use Rattle.std.proofs.lemmas.Bool.{lt-ltb}
use Rattle.qic24.specs.Copy.{Numbered, copy, preamble_ones}
use Rattle.qic24.specs.declared.layout.Preamble.TheVariants.{Normal}
use Rattle.tape.specs.Tape.{Tape, track, Run, run, Sends}
use Rattle.replay.specs.Copies.{place_on, placed, Whole}
use Rattle.replay.specs.Scan.{stands}
use Rattle.deck.specs.Measures.{copy_tail, normal_copy, most_writings, more_writings, item_room}
use Rattle.deck.specs.Rewriting.{rewritten_with}
use Rattle.deck.specs.Deck.{copy_runs, copy_place, end_track, end_place, pending_at, new_at, pair_puts}
use Rattle.deck.specs.LastCopies.{last_copy, failed_with}
use Rattle.deck.proofs.CallRuns.{pairs_grew}
use Rattle.deck.proofs.CopyLengths.{Full}
use Rattle.deck.proofs.Media.{Medium, sends-append, of_cartridge, sent_grown, sent_extends, sent-room}
use Rattle.deck.proofs.Rewritings.{writing, Failed, failed_none, failed_more, failed_then_good, failed_to_last}

-- both items once, on a track
abbrev pub pair_runs : ℕ → Numbered → Numbered → List Run
pair_runs t N M = run t (copy (preamble_ones Normal) t N) ∷ run t (copy (preamble_ones Normal) t M) ∷ []

module _ (limit : ℕ) (c : Tape) (N M : Numbered) where
  runs-more : (k i : ℕ) → copy_runs (rewritten_with (pending_at limit c) (new_at limit c) N M i (suc k)) ≡ copy_runs (rewritten_with (pending_at limit c) (new_at limit c) N M i k) ++ pair_runs (end_track c) N M
  runs-more zero i = refl
  runs-more (suc k) i = ap (λ (rs : List Run). run (end_track c) (copy (preamble_ones Normal) (end_track c) N) ∷ run (end_track c) (copy (preamble_ones Normal) (end_track c) M) ∷ rs) (runs-more k (suc i))

  pairs_more : (j : ℕ) → j < more_writings → copy_runs (pair_puts limit c (last_copy c N) M (j + 1)) ≡ copy_runs (pair_puts limit c (last_copy c N) M j) ++ pair_runs (end_track c) N M
  pairs_more j h =
      let a : min (j + 1) more_writings ≡ suc j = omega arith in
      let b : min j more_writings ≡ j = omega arith in
      let first : ℕ → List Run = λ k. copy_runs (placed (new_at limit c 0) M ∷ rewritten_with (pending_at limit c) (new_at limit c) N M 1 k) in
      ap first a ∙ (ap (λ (rs : List Run). run (end_track c) (copy (preamble_ones Normal) (end_track c) M) ∷ rs) (runs-more j 1) ∙ sym (ap (λ (k : ℕ). first k ++ pair_runs (end_track c) N M) b))

  -- the last copy of the pending item is the last copy but one
  last_but_one : (t n j : ℕ) → t ≡ end_track c → n ≡ end_place c + suc (j + j) * normal_copy → placed (place_on t (n - (normal_copy + copy_tail))) N ≡ writing (last_copy c N) (pending_at limit c) j
  last_but_one t n zero e h =
      let at : n - (normal_copy + copy_tail) ≡ end_place c - copy_tail = omega arith in
      ap (λ (u : ℕ). placed (place_on u (n - (normal_copy + copy_tail))) N) e ∙ ap (λ (p : ℕ). placed (place_on (end_track c) p) N) at
  last_but_one t n (suc j) e h =
      let at : n - (normal_copy + copy_tail) ≡ (copy_place (end_track c) (end_place c) (2 * suc j - 1)).at = omega arith in
      ap (λ (u : ℕ). placed (place_on u (n - (normal_copy + copy_tail))) N) e ∙ ap (λ (p : ℕ). placed (place_on (end_track c) p) N) at

  pair_whole : (e : Tape) (j : ℕ) → length (track e (end_track c)) ≡ end_place c + suc (j + j) * normal_copy → Whole e (writing (last_copy c N) (pending_at limit c) j)
  pair_whole e zero h = omega arith
  pair_whole e (suc j) h = omega arith

module _ {S : Type 0} (C : Medium S) (N M : Numbered) where
  -- M and then j times N and M, while N failed
  pub record Pairs (s : S) (j : ℕ) (e : S) : Type 0 where
    pub sends : Sends C.takes s (copy_runs (pair_puts (C.room s) (C.cells s) (last_copy (C.cells s) N) M j)) e
    pub failed : Failed (last_copy (C.cells s) N) (pending_at (C.room s) (C.cells s)) (C.cells e) j

  -- the same, from the medium b that has M
  abbrev pub PairsSince : ℕ → ℕ → S → S → Type 0
  PairsSince t j b e = (s : S) → t ≡ end_track (C.cells s) → C.takes s (run t (copy (preamble_ones Normal) t M)) b → Pairs s j e

  pub pairs_first : (t : ℕ) (e : S) → PairsSince t 0 e e
  pairs_first t e s on k = record {
    sends = (e, subst (λ (u : ℕ). C.takes s (run u (copy (preamble_ones Normal) u M)) e) on k, refl);
    failed = failed_none (last_copy (C.cells s) N) (pending_at (C.room s) (C.cells s)) (C.cells e);
  }

  pub pairs_since : (t u j : ℕ) (s b e : S) → u ≡ t → t ≡ end_track (C.cells s) → C.takes s (run t (copy (preamble_ones Normal) t M)) b → PairsSince u j b e → Pairs s j e
  pairs_since t u j s b e q on k p = p s (q ∙ on) (subst (λ (v : ℕ). C.takes s (run v (copy (preamble_ones Normal) v M)) b) (sym q) k)

  -- what following leaves, and whether N came out good
  pub record Followed (s : S) (good : Bool) (e : S) : Type 0 where
    pub sent : Sends C.takes s (copy_runs (pair_puts (C.room s) (C.cells s) (last_copy (C.cells s) N) M (failed_with (C.room s) (C.cells s) (C.cells e) N))) e
    pub answer : good ≡ ltb (failed_with (C.room s) (C.cells s) (C.cells e) N) most_writings

module _ {S : Type 0} (C : Medium S) (N M : Numbered) (fN : Full N.content) (fM : Full M.content) (s : S) where
  pub pairs_length : (j : ℕ) (e : S) → j ≤ more_writings → Pairs C N M s j e → length (track (C.cells e) (end_track (C.cells s))) ≡ end_place (C.cells s) + suc (j + j) * normal_copy
  pairs_length j e h p =
      let w = (pairs_grew (C.room s) (C.cells s) (C.cells e) (last_copy (C.cells s) N) M j fN fM (sent_grown C (copy_runs (pair_puts (C.room s) (C.cells s) (last_copy (C.cells s) N) M j)) s e p.sends)).0 in
      let a : min j more_writings ≡ j = omega arith in
      omega arith

  -- the track has room for one pair more
  pub pairs_fit : (t j : ℕ) (e : S) → t ≡ end_track (C.cells s) → item_room + end_place (C.cells s) ≤ C.room s → j < more_writings → Pairs C N M s j e → length (track (C.cells e) t) + 2 * normal_copy ≤ C.room e
  pairs_fit t j e on fits h p =
      let long : length (track (C.cells e) t) ≡ end_place (C.cells s) + suc (j + j) * normal_copy = ap (λ (u : ℕ). length (track (C.cells e) u)) on ∙ pairs_length j e (omega arith) p in
      omega (arith, sent-room C (copy_runs (pair_puts (C.room s) (C.cells s) (last_copy (C.cells s) N) M j)) s e p.sends)

  -- what the check of the last copy but one answers
  abbrev Checked : ℕ → S → Bool → Type 0
  Checked t e good = good ≡ stands (C.cells e) (placed (place_on t (length (track (C.cells e) t) - (normal_copy + copy_tail))) N)

  checked_writing : (t j : ℕ) (e : S) (good : Bool) → t ≡ end_track (C.cells s) → j ≤ more_writings → Pairs C N M s j e → Checked t e good → stands (C.cells e) (writing (last_copy (C.cells s) N) (pending_at (C.room s) (C.cells s)) j) ≡ good
  checked_writing t j e good on h p k =
      let long : length (track (C.cells e) t) ≡ end_place (C.cells s) + suc (j + j) * normal_copy = ap (λ (u : ℕ). length (track (C.cells e) u)) on ∙ pairs_length j e h p in
      sym (k ∙ ap (stands (C.cells e)) (last_but_one (C.room s) (C.cells s) N M t (length (track (C.cells e) t)) j on long))

  pub pairs_again : (t j : ℕ) (e e' : S) → t ≡ end_track (C.cells s) → j < more_writings → Pairs C N M s j e → Checked t e false → Sends C.takes e (pair_runs t N M) e' → Pairs C N M s (j + 1) e'
  pairs_again t j e e' on h p k x =
      let x' = subst (λ (u : ℕ). Sends C.takes e (pair_runs u N M) e') on x in
      record {
        sends = subst (λ (rs : List Run). Sends C.takes s rs e') (sym (pairs_more (C.room s) (C.cells s) N M j h)) (sends-append C.takes (copy_runs (pair_puts (C.room s) (C.cells s) (last_copy (C.cells s) N) M j)) (pair_runs (end_track (C.cells s)) N M) s e e' p.sends x');
        failed = failed_more (last_copy (C.cells s) N) (pending_at (C.room s) (C.cells s)) (C.cells e) (C.cells e') j (sent_extends C (pair_runs t N M) e e' x) (of_cartridge C e') p.failed (pair_whole (C.room s) (C.cells s) N M (C.cells e) j (pairs_length j e (omega arith) p)) (checked_writing t j e false on (omega arith) p k);
      }

  followed : (j : ℕ) (e : S) (good : Bool) → j ≤ more_writings → Pairs C N M s j e → min (failed_with (C.room s) (C.cells s) (C.cells e) N) more_writings ≡ j → good ≡ ltb (failed_with (C.room s) (C.cells s) (C.cells e) N) most_writings → Followed C N M s good e
  followed j e good h p m a =
      let b : min j more_writings ≡ j = omega arith in
      record { sent = subst (λ (k : ℕ). Sends C.takes s (copy_runs (placed (new_at (C.room s) (C.cells s) 0) M ∷ rewritten_with (pending_at (C.room s) (C.cells s)) (new_at (C.room s) (C.cells s)) N M 1 k)) e) (b ∙ sym m) p.sends; answer = a }

  pub pairs_good : (t j : ℕ) (e : S) → t ≡ end_track (C.cells s) → j ≤ more_writings → Pairs C N M s j e → Checked t e true → Followed C N M s true e
  pairs_good t j e on h p k =
      let m = failed_then_good (last_copy (C.cells s) N) (pending_at (C.room s) (C.cells s)) (C.cells e) j h p.failed (checked_writing t j e true on h p k) in
      followed j e true h p (omega (arith, m)) (sym (lt-ltb (failed_with (C.room s) (C.cells s) (C.cells e) N) most_writings (omega (arith, m))))

  pub pairs_last : (t : ℕ) (e : S) (good : Bool) → t ≡ end_track (C.cells s) → Pairs C N M s more_writings e → Checked t e good → Followed C N M s good e
  pairs_last t e good on p k =
      let w = failed_to_last (last_copy (C.cells s) N) (pending_at (C.room s) (C.cells s)) (C.cells e) good p.failed (sym (checked_writing t more_writings e good on (omega arith) p k)) in
      followed more_writings e good (omega arith) p (omega (arith, w.0)) w.1
