-- The pending item written again alone: what is sent so far, and that it failed so far.
use Rattle.std.proofs.Common.{◌≡◌, ℕ, zero, suc, ◌+◌, ◌-◌, ◌*◌, ◌<◌, ◌≤◌, min, Bool, true, false, cond, ltb, List, [], ◌∷◌, ◌++◌, length, sym, refl, ap, ◌∙◌, subst, add-one, arith}
use Rattle.std.proofs.lemmas.Bool.{lt-ltb, cond-true}
use Rattle.qic24.specs.Copy.{Numbered, ones, copy, preamble_ones}
use Rattle.qic24.specs.declared.layout.Preamble.TheVariants.{Normal}
use Rattle.tape.specs.Tape.{Tape, track, Run, run, Sends, Grown}
use Rattle.replay.specs.Copies.{place_on, placed, Whole}
use Rattle.replay.specs.Scan.{stands}
use Rattle.replay.proofs.Growing.{extends_refl}
use Rattle.deck.specs.Measures.{copy_tail, normal_copy, closing_ones, most_writings, more_writings, finish_room}
use Rattle.deck.specs.Rewriting.{rewritten}
use Rattle.deck.specs.Deck.{copy_runs, copy_place, end_track, end_place, alone_at, finish_puts, finish_runs}
use Rattle.deck.specs.LastCopies.{last_copy, failed_alone}
use Rattle.deck.proofs.CallRuns.{end_place-is}
use Rattle.deck.proofs.CopyLengths.{Full}
use Rattle.deck.proofs.LaidCopies.{grow_laid, laid_rewritten}
use Rattle.deck.proofs.Media.{Medium, sends-append, of_cartridge, sent_grown, sent_extends, sent-room}
use Rattle.deck.proofs.Rewritings.{writing, Failed, failed_none, failed_more, failed_later, failed_then_good, failed_to_last, failures_later}

module _ (limit : ℕ) (c : Tape) (N : Numbered) where
  -- the runs of j copies
  abbrev pub lone_runs : ℕ → List Run
  lone_runs j = copy_runs (rewritten (alone_at limit c) N 1 j)

  lone_more : (j : ℕ) → lone_runs (j + 1) ≡ lone_runs j ++ (run (end_track c) (copy (preamble_ones Normal) (end_track c) N) ∷ [])
  lone_more j = rw add-one (go j 1)
    where
      go : (k i : ℕ) → copy_runs (rewritten (alone_at limit c) N i (suc k)) ≡ copy_runs (rewritten (alone_at limit c) N i k) ++ (run (end_track c) (copy (preamble_ones Normal) (end_track c) N) ∷ [])
      go zero i = refl
      go (suc k) i = ap (λ (rs : List Run). run (end_track c) (copy (preamble_ones Normal) (end_track c) N) ∷ rs) (go k (suc i))

  pub length-rewritten : (i k : ℕ) → length (rewritten (alone_at limit c) N i k) ≡ k
  length-rewritten i zero = refl
  length-rewritten i (suc k) = ap suc (length-rewritten (suc i) k)

  -- the track's length after j copies
  lone_grew : (j : ℕ) (e : Tape) → Full N.content → Grown c (lone_runs j) e → length (track e (end_track c)) ≡ end_place c + j * normal_copy
  lone_grew j e f g =
      (grow_laid (end_track c) (end_place c) 0 (rewritten (alone_at limit c) N 1 j) c e (laid_rewritten (end_track c) (end_place c) (alone_at limit c) N 0 j (λ i. let q : suc i - 1 ≡ i = omega arith in ap (copy_place (end_track c) (end_place c)) q) f) (sym (end_place-is c) ∙ omega arith) g).0 ∙
      ap (λ (n : ℕ). end_place c + (0 + n) * normal_copy) (length-rewritten 1 j) ∙ omega arith

  -- the j-th writing is the last copy but one after j + 1 copies, and the last one after j
  last_but_one : (t n j : ℕ) → t ≡ end_track c → n ≡ end_place c + (j + 1) * normal_copy → placed (place_on t (n - (normal_copy + copy_tail))) N ≡ writing (last_copy c N) (alone_at limit c) j
  last_but_one t n zero e h =
      let at : n - (normal_copy + copy_tail) ≡ end_place c - copy_tail = omega arith in
      ap (λ (u : ℕ). placed (place_on u (n - (normal_copy + copy_tail))) N) e ∙ ap (λ (p : ℕ). placed (place_on (end_track c) p) N) at
  last_but_one t n (suc j) e h =
      let at : n - (normal_copy + copy_tail) ≡ (copy_place (end_track c) (end_place c) (suc j - 1)).at = omega arith in
      ap (λ (u : ℕ). placed (place_on u (n - (normal_copy + copy_tail))) N) e ∙ ap (λ (p : ℕ). placed (place_on (end_track c) p) N) at

  last_one : (t n : ℕ) → t ≡ end_track c → n ≡ end_place c + more_writings * normal_copy → placed (place_on t (n - copy_tail)) N ≡ writing (last_copy c N) (alone_at limit c) more_writings
  last_one t n e h =
      let at : n - copy_tail ≡ (copy_place (end_track c) (end_place c) (more_writings - 1)).at = omega arith in
      ap (λ (u : ℕ). placed (place_on u (n - copy_tail)) N) e ∙ ap (λ (p : ℕ). placed (place_on (end_track c) p) N) at

  pub lone_whole : (e : Tape) (j k : ℕ) → end_place c + k * normal_copy ≤ length (track e (end_track c)) → 1 ≤ k → j ≤ k → Whole e (writing (last_copy c N) (alone_at limit c) j)
  lone_whole e zero k h a b = omega arith
  lone_whole e (suc j) k h a b = omega arith

module _ {S : Type 0} (C : Medium S) (N : Numbered) where
  -- k copies of N, of which the first j, with the one that stood, failed
  pub record Lone (s : S) (k j : ℕ) (e : S) : Type 0 where
    pub sends : Sends C.takes s (lone_runs (C.room s) (C.cells s) N k) e
    pub failed : Failed (last_copy (C.cells s) N) (alone_at (C.room s) (C.cells s)) (C.cells e) j

  pub lone_none : (s : S) → Lone s 0 0 s
  lone_none s = record { sends = refl; failed = failed_none (last_copy (C.cells s) N) (alone_at (C.room s) (C.cells s)) (C.cells s) }

  -- what writing it again leaves, and whether it came out good
  pub record Again (s : S) (good : Bool) (e : S) : Type 0 where
    pub sent : Sends C.takes s (copy_runs (finish_puts (C.room s) (C.cells s) (last_copy (C.cells s) N) (failed_alone (C.room s) (C.cells s) (C.cells e) N))) e
    pub answer : good ≡ ltb (failed_alone (C.room s) (C.cells s) (C.cells e) N) most_writings

  -- what finishing leaves
  pub record Finished (s : S) (good : Bool) (e : S) : Type 0 where
    pub sent : Sends C.takes s (finish_runs (C.room s) (C.cells s) (last_copy (C.cells s) N) (failed_alone (C.room s) (C.cells s) (C.cells e) N)) e
    pub answer : good ≡ ltb (failed_alone (C.room s) (C.cells s) (C.cells e) N) most_writings

module _ {S : Type 0} (C : Medium S) (N : Numbered) (full : Full N.content) (s : S) where
  -- N once more on the track
  abbrev again_run : ℕ → Run
  again_run t = run t (copy (preamble_ones Normal) t N)

  lone_length : (k : ℕ) (e : S) → Sends C.takes s (lone_runs (C.room s) (C.cells s) N k) e → length (track (C.cells e) (end_track (C.cells s))) ≡ end_place (C.cells s) + k * normal_copy
  lone_length k e h = lone_grew (C.room s) (C.cells s) N k (C.cells e) full (sent_grown C (lone_runs (C.room s) (C.cells s) N k) s e h)

  -- the track has room
  pub lone_fit : (t k : ℕ) (e : S) → t ≡ end_track (C.cells s) → finish_room + end_place (C.cells s) ≤ C.room s → k ≤ more_writings → Sends C.takes s (lone_runs (C.room s) (C.cells s) N k) e → length (track (C.cells e) t) + (more_writings - k) * normal_copy + closing_ones ≤ C.room e
  lone_fit t k e on fits h p =
      let long : length (track (C.cells e) t) ≡ end_place (C.cells s) + k * normal_copy = ap (λ (u : ℕ). length (track (C.cells e) u)) on ∙ lone_length k e p in
      omega (arith, sent-room C (lone_runs (C.room s) (C.cells s) N k) s e p)

  pub lone_sent : (t j : ℕ) (e e' : S) → t ≡ end_track (C.cells s) → Lone C N s j j e → C.takes e (again_run t) e' → Lone C N s (j + 1) j e'
  lone_sent t j e e' on p x =
      let x' : Sends C.takes e (again_run (end_track (C.cells s)) ∷ []) e' = (e', subst (λ (u : ℕ). C.takes e (again_run u) e') on x, refl) in
      record {
        sends = subst (λ (rs : List Run). Sends C.takes s rs e') (sym (lone_more (C.room s) (C.cells s) N j)) (sends-append C.takes (lone_runs (C.room s) (C.cells s) N j) (again_run (end_track (C.cells s)) ∷ []) s e e' p.sends x');
        failed = failed_later (last_copy (C.cells s) N) (alone_at (C.room s) (C.cells s)) (C.cells e) (C.cells e') j (sent_extends C (again_run (end_track (C.cells s)) ∷ []) e e' x') (of_cartridge C e') p.failed;
      }

  -- what the check of the last copy but one answers
  abbrev Checked : ℕ → S → Bool → Type 0
  Checked t e good = good ≡ stands (C.cells e) (placed (place_on t (length (track (C.cells e) t) - (normal_copy + copy_tail))) N)

  checked_writing : (t j : ℕ) (e : S) (good : Bool) → t ≡ end_track (C.cells s) → Lone C N s (j + 1) j e → Checked t e good → stands (C.cells e) (writing (last_copy (C.cells s) N) (alone_at (C.room s) (C.cells s)) j) ≡ good
  checked_writing t j e good on p k =
      let long : length (track (C.cells e) t) ≡ end_place (C.cells s) + (j + 1) * normal_copy = ap (λ (u : ℕ). length (track (C.cells e) u)) on ∙ lone_length (j + 1) e p.sends in
      sym (k ∙ ap (stands (C.cells e)) (last_but_one (C.room s) (C.cells s) N t (length (track (C.cells e) t)) j on long))

  pub lone_failed : (t j : ℕ) (e : S) → t ≡ end_track (C.cells s) → Lone C N s (j + 1) j e → Checked t e false → Lone C N s (j + 1) (j + 1) e
  lone_failed t j e on p k = record {
    sends = p.sends;
    failed = failed_more (last_copy (C.cells s) N) (alone_at (C.room s) (C.cells s)) (C.cells e) (C.cells e) j (extends_refl (C.cells e)) (of_cartridge C e) p.failed (lone_whole (C.room s) (C.cells s) N (C.cells e) j (j + 1) (omega (arith, lone_length (j + 1) e p.sends)) (omega arith) (omega arith)) (checked_writing t j e false on p k);
  }

  written_again : (k j : ℕ) (e : S) (good : Bool) → Lone C N s k j e → min (suc (failed_alone (C.room s) (C.cells s) (C.cells e) N)) more_writings ≡ k → good ≡ ltb (failed_alone (C.room s) (C.cells s) (C.cells e) N) most_writings → Again C N s good e
  written_again k j e good p m a = record { sent = subst (λ (n : ℕ). Sends C.takes s (lone_runs (C.room s) (C.cells s) N n) e) (sym m) p.sends; answer = a }

  pub lone_good : (t j : ℕ) (e : S) → t ≡ end_track (C.cells s) → j < more_writings → Lone C N s (j + 1) j e → Checked t e true → Again C N s true e
  lone_good t j e on h p k =
      let m = failed_then_good (last_copy (C.cells s) N) (alone_at (C.room s) (C.cells s)) (C.cells e) j (omega arith) p.failed (checked_writing t j e true on p k) in
      written_again (j + 1) j e true p (omega (arith, m)) (sym (lt-ltb (failed_alone (C.room s) (C.cells s) (C.cells e) N) most_writings (omega (arith, m))))

  pub lone_last : (t : ℕ) (e : S) (good : Bool) → t ≡ end_track (C.cells s) → Lone C N s more_writings more_writings e → good ≡ stands (C.cells e) (placed (place_on t (length (track (C.cells e) t) - copy_tail)) N) → Again C N s good e
  lone_last t e good on p k =
      let long : length (track (C.cells e) t) ≡ end_place (C.cells s) + more_writings * normal_copy = ap (λ (u : ℕ). length (track (C.cells e) u)) on ∙ lone_length more_writings e p.sends in
      let w = failed_to_last (last_copy (C.cells s) N) (alone_at (C.room s) (C.cells s)) (C.cells e) good p.failed (k ∙ ap (stands (C.cells e)) (last_one (C.room s) (C.cells s) N t (length (track (C.cells e) t)) on long)) in
      written_again more_writings more_writings e good p (omega (arith, w.0)) w.1

  -- the ones close the track where it came out good
  pub finished_good : (t : ℕ) (e e' : S) → t ≡ end_track (C.cells s) → Again C N s true e → C.takes e (run t (ones closing_ones)) e' → Finished C N s true e'
  finished_good t e e' on a x =
      let m = failed_alone (C.room s) (C.cells s) (C.cells e) N in
      let k = min (suc m) more_writings in
      let x' : Sends C.takes e (run (end_track (C.cells s)) (ones closing_ones) ∷ []) e' = (e', subst (λ (u : ℕ). C.takes e (run u (ones closing_ones)) e') on x, refl) in
      let same : m ≡ failed_alone (C.room s) (C.cells s) (C.cells e') N = failures_later (last_copy (C.cells s) N) (alone_at (C.room s) (C.cells s)) (C.cells e) (C.cells e') (sent_extends C (run (end_track (C.cells s)) (ones closing_ones) ∷ []) e e' x') (of_cartridge C e')
      (λ i h l. lone_whole (C.room s) (C.cells s) N (C.cells e) i k (omega (arith, lone_length k e a.sent)) (omega arith) (omega arith)) in
      let closed : Sends C.takes s (finish_runs (C.room s) (C.cells s) (last_copy (C.cells s) N) m) e' =
      sends-append C.takes (lone_runs (C.room s) (C.cells s) N k) (cond (ltb m most_writings) (run (end_track (C.cells s)) (ones closing_ones) ∷ []) []) s e e' a.sent
      (subst (λ (rs : List Run). Sends C.takes e rs e') (sym (cond-true (ltb m most_writings) (run (end_track (C.cells s)) (ones closing_ones) ∷ []) [] (sym a.answer))) x') in
      record { sent = subst (λ (n : ℕ). Sends C.takes s (finish_runs (C.room s) (C.cells s) (last_copy (C.cells s) N) n) e') same closed; answer = a.answer ∙ ap (λ (n : ℕ). ltb n most_writings) same }
