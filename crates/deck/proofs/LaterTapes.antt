-- What a call does may be judged on any later tape.
use Rattle.std.proofs.Common.{◌≡◌, ℕ, zero, suc, ◌+◌, ◌<◌, ◌≤◌, min, Bool, true, false, cond, eqb, ltb, [], ◌∷◌, length, sym, refl, ap, ◌∙◌, subst, add-zero, arith}
use Rattle.std.proofs.lemmas.Bool.{cond_both, true≢false}
use Rattle.qic24.specs.Copy.{Numbered}
use Rattle.qic24.specs.declared.item.Content.{Content}
use Rattle.qic24.specs.declared.item.Content.TheVariants.{Block, Mark}
use Rattle.tape.specs.Tape.{Tape}
use Rattle.deck.specs.Measures.{most_writings, more_writings, number_limit}
use Rattle.replay.specs.Copies.{CopyAt, placed, In, here, there, Whole}
use Rattle.replay.specs.declared.place.TapePlace.{TapePlace}
use Rattle.replay.specs.Replay.{ReplayProgress}
use Rattle.deck.specs.Calls.{DeckCall, begin_call, write_call, mark_call, stop_call, item_of}
use Rattle.deck.specs.Rewriting.{first_passing, rewritten, rewritten_with, writing_good, failed_writings}
use Rattle.deck.specs.Deck.{RecordingPhase, nothing_pending, item_pending, item_failed, RecordingNumbers, DeckState, deck_idle, deck_recording, CallOutcome, end_track, pending_copy, alone_at, finish_puts, first_on, pending_at, new_at, pair_puts, follows, changes_track, short_of_room, short_to_finish, media_ends, alone_failures, pair_failures, takes_item, finishes, call_does}
use Rattle.replay.proofs.Orders.{in_left}
use Rattle.replay.proofs.Growing.{Extends, whole-more}
use Rattle.deck.proofs.CallRuns.{Fine, Valid, end_place-is}

same_first : (n : ℕ) (p q : ℕ → Bool) → ((k : ℕ) → k ≤ first_passing n p → k < n → p k ≡ q k) → first_passing n p ≡ first_passing n q
same_first zero p q h = refl
same_first (suc n) p q h = go (p 0) (q 0) refl (h 0 (omega arith) (omega arith)) (λ r. same_first n (λ k. p (suc k)) (λ k. q (suc k)) r)
  where
    go : (a b : Bool) → p 0 ≡ a → p 0 ≡ b → (((k : ℕ) → k ≤ first_passing n (λ i. p (suc i)) → k < n → p (suc k) ≡ q (suc k)) → first_passing n (λ i. p (suc i)) ≡ first_passing n (λ i. q (suc i))) → cond a 0 (suc (first_passing n (λ i. p (suc i)))) ≡ cond b 0 (suc (first_passing n (λ i. q (suc i))))
    go true true e f ih = refl
    go true false e f ih = absurd (true≢false (sym e ∙ f))
    go false true e f ih = absurd (true≢false (sym f ∙ e))
    go false false e f ih = ap suc (ih (λ k l r. h (suc k) (subst (λ (z : Bool). suc k ≤ cond z 0 (suc (first_passing n (λ i. p (suc i))))) (sym e) (omega arith)) (omega arith)))

in_rewritten : (at : ℕ → TapePlace) (N : Numbered) (i k j : ℕ) → j < k → In (placed (at (i + j)) N) (rewritten at N i k)
in_rewritten at N i zero j h = absurd (omega arith)
in_rewritten at N i (suc k) zero h = subst (λ (x : ℕ). In (placed (at x) N) (placed (at i) N ∷ rewritten at N (suc i) k)) (sym (add-zero i)) here
in_rewritten at N i (suc k) (suc j) h = let e : suc i + j ≡ i + suc j = omega arith in there (subst (λ (x : ℕ). In (placed (at x) N) (rewritten at N (suc i) k)) e (in_rewritten at N (suc i) k j (omega arith)))

in_rewritten_with : (at to : ℕ → TapePlace) (N M : Numbered) (i k j : ℕ) → j < k → In (placed (at (i + j)) N) (rewritten_with at to N M i k)
in_rewritten_with at to N M i zero j h = absurd (omega arith)
in_rewritten_with at to N M i (suc k) zero h = subst (λ (x : ℕ). In (placed (at x) N) (placed (at i) N ∷ (placed (to i) M ∷ rewritten_with at to N M (suc i) k))) (sym (add-zero i)) here
in_rewritten_with at to N M i (suc k) (suc j) h = let e : suc i + j ≡ i + suc j = omega arith in there (there (subst (λ (x : ℕ). In (placed (at x) N) (rewritten_with at to N M (suc i) k)) e (in_rewritten_with at to N M (suc i) k j (omega arith))))

-- two outcomes are the same where the way that is taken is the same
cond_same : (P : CallOutcome → Type 0) (b : Bool) (x y u v : CallOutcome) → P (cond b x y) → (P x → x ≡ u) → (P y → y ≡ v) → cond b x y ≡ cond b u v
cond_same P true x y u v h p q = p h
cond_same P false x y u v h p q = q h

-- `good` tells which copies came out so on the tape m after a call on c, and `good'` on a later tape: they agree on what lies whole on m
module _ (good good' : CopyAt → Bool) (c m : Tape) (same : (f : CopyAt) → Whole m f → good f ≡ good' f) where
  -- N and the copies of it up to the first good one lie whole on the tape
  same_failures : (N : CopyAt) (at : ℕ → TapePlace) → Whole m N → ((j : ℕ) → suc j ≤ failed_writings good N at → suc j < most_writings → Whole m (placed (at (suc j)) N.item)) → failed_writings good N at ≡ failed_writings good' N at
  unfolding failed_writings
  same_failures N at w h = same_first most_writings (writing_good good N at) (writing_good good' N at) each
    where
      each : (k : ℕ) → k ≤ first_passing most_writings (writing_good good N at) → k < most_writings → writing_good good N at k ≡ writing_good good' N at k
      each zero l r = same N w
      each (suc j) l r = same (placed (at (suc j)) N.item) (h j l r)

  module _ (room : ℕ) where
    follows-puts : (s : RecordingNumbers) (N : CopyAt) (M : Numbered) (k : ℕ) → (follows room c s N M k).puts ≡ pair_puts room c N M k
    follows-puts s N M k = cond_both (ltb k most_writings) _ _ (λ (o : CallOutcome). o.puts ≡ pair_puts room c N M k) (λ _. refl) (λ _. refl)

    same_follows : (s : RecordingNumbers) (N : CopyAt) (M : Numbered) → Whole m N → Fine room c m (follows room c s N M (pair_failures room c good N)) → follows room c s N M (pair_failures room c good N) ≡ follows room c s N M (pair_failures room c good' N)
    same_follows s N M w f =
        ap (follows room c s N M) (same_failures N (pending_at room c) w
        (λ j l r. (f.new (placed (pending_at room c (suc j)) N.item)
        (subst (In (placed (pending_at room c (suc j)) N.item)) (sym (follows-puts s N M (pair_failures room c good N)))
        (there (let i : 1 + j ≡ suc j = omega arith in subst (λ (k : ℕ). In (placed (pending_at room c k) N.item) (rewritten_with (pending_at room c) (new_at room c) N.item M 1 (min (pair_failures room c good N) more_writings))) i
        (in_rewritten_with (pending_at room c) (new_at room c) N.item M 1 (min (pair_failures room c good N) more_writings) j (omega arith)))))).1))

    in_finish : (N : CopyAt) (k j : ℕ) → suc j ≤ k → suc j < most_writings → In (placed (alone_at room c (suc j)) N.item) (finish_puts room c N k)
    in_finish N k j l r = let i : 1 + j ≡ suc j = omega arith in subst (λ (z : ℕ). In (placed (alone_at room c z) N.item) (finish_puts room c N k)) i (in_rewritten (alone_at room c) N.item 1 (min (suc k) more_writings) j (omega arith))

    changes_in : (s : RecordingNumbers) (N : CopyAt) (M : Numbered) (k : ℕ) (f : CopyAt) → In f (finish_puts room c N k) → In f (changes_track room c s N M k).puts
    changes_in s N M k f i = cond_both (ltb k most_writings) _ _ (λ (o : CallOutcome). In f o.puts) (λ _. in_left f (finish_puts room c N k) (first_on room c (suc (end_track c)) M ∷ []) i) (λ _. i)

    same_changes : (s : RecordingNumbers) (N : CopyAt) (M : Numbered) → Whole m N → Fine room c m (changes_track room c s N M (alone_failures room c good N)) → changes_track room c s N M (alone_failures room c good N) ≡ changes_track room c s N M (alone_failures room c good' N)
    same_changes s N M w f =
        ap (changes_track room c s N M) (same_failures N (alone_at room c) w
        (λ j l r. (f.new (placed (alone_at room c (suc j)) N.item) (changes_in s N M (alone_failures room c good N) (placed (alone_at room c (suc j)) N.item) (in_finish N (alone_failures room c good N) j l r))).1))

    same_finishes : (s : RecordingNumbers) (N : CopyAt) → Whole m N → Fine room c m (finishes room c s N (alone_failures room c good N)) → finishes room c s N (alone_failures room c good N) ≡ finishes room c s N (alone_failures room c good' N)
    same_finishes s N w f =
        ap (finishes room c s N) (same_failures N (alone_at room c) w
        (λ j l r. (f.new (placed (alone_at room c (suc j)) N.item) (in_finish N (alone_failures room c good N) j l r)).1))

    -- the pending copy lies whole
    pending_whole : (s : RecordingNumbers) (x : Content) → Extends c m → Valid room c (deck_recording s (item_pending x)) → Whole m (pending_copy c s x)
    pending_whole s x y v = whole-more c m (pending_copy c s x) y (omega (arith, v.2, end_place-is c))

    same_item : (s : RecordingNumbers) (p : RecordingPhase) (M : Numbered) → Extends c m → Valid room c (deck_recording s p) → Fine room c m (takes_item room c good s p M) → takes_item room c good s p M ≡ takes_item room c good' s p M
    same_item s (item_failed n) M y v f = refl
    same_item s nothing_pending M y v f = refl
    same_item s (item_pending x) M y v f =
        cond_same (Fine room c m) (eqb s.next number_limit) _ _ _ _ f (λ _. refl)
        (λ g. cond_same (Fine room c m) (short_of_room room c) _ _ _ _ g
        (λ h. cond_same (Fine room c m) (media_ends room c) _ _ _ _ h (λ _. refl) (λ k. cond_same (Fine room c m) (short_to_finish room c) _ _ _ _ k (λ _. refl) (same_changes s (pending_copy c s x) M (pending_whole s x y v))))
        (same_follows s (pending_copy c s x) M (pending_whole s x y v)))

    pub same_does : (r : ReplayProgress) (s : DeckState) (call : DeckCall) → Extends c m → Valid room c s → Fine room c m (call_does r good room c s call) → call_does r good room c s call ≡ call_does r good' room c s call
    same_does r s begin_call y v f = refl
    same_does r deck_idle (write_call bs) y v f = refl
    same_does r (deck_recording s p) (write_call bs) y v f = cond_same (Fine room c m) (eqb (length bs) 512) _ _ _ _ f (same_item s p (item_of s.next (Block bs)) y v) (λ _. refl)
    same_does r deck_idle mark_call y v f = refl
    same_does r (deck_recording s p) mark_call y v f = same_item s p (item_of s.next Mark) y v f
    same_does r deck_idle stop_call y v f = refl
    same_does r (deck_recording s nothing_pending) stop_call y v f = refl
    same_does r (deck_recording s (item_failed n)) stop_call y v f = refl
    same_does r (deck_recording s (item_pending x)) stop_call y v f = cond_same (Fine room c m) (short_to_finish room c) _ _ _ _ f (λ _. refl) (same_finishes s (pending_copy c s x) (pending_whole s x y v))
