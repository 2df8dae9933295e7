-- A recording counts what it keeps.
use Rattle.std.proofs.Common.{◌≡◌, ℕ, suc, ◌+◌, ◌-◌, Bool, eqb, ltb, List, [], ◌∷◌, ◌++◌, length, Option, sym, refl, ap, ◌∙◌, subst, arith, length-append}
use Rattle.std.proofs.lemmas.Bool.{cond_both}
use Rattle.qic24.specs.Cells.{fold}
use Rattle.qic24.specs.Copy.{Numbered}
use Rattle.qic24.proofs.Binary.{fold-append}
use Rattle.qic24.specs.declared.item.Content.{Content}
use Rattle.qic24.specs.declared.item.Content.TheVariants.{Block, Mark}
use Rattle.tape.specs.Tape.{Tape}
use Rattle.replay.specs.Copies.{CopyAt}
use Rattle.replay.specs.Replay.{ReplayState, expecting, not_located, ReplayProgress}
use Rattle.replay.specs.Scan.{stands}
use Rattle.replay.specs.Seeking.{tape_replay}
use Rattle.replay.specs.declared.unlocated.UnsoundOpening.{UnsoundOpening}
use Rattle.deck.specs.Measures.{most_writings, item_room, number_limit}
use Rattle.deck.specs.Calls.{DeckCall, begin_call, write_call, mark_call, stop_call, DeckAnswer, next_number, unwritable, AnsweredCall, item_of, handed_in, without, kept_after, kept_list}
use Rattle.deck.specs.Deck.{RecordingPhase, nothing_pending, item_pending, item_failed, RecordingNumbers, DeckState, deck_idle, deck_recording, CallOutcome, pending_copy, short_of_room, short_to_finish, media_ends, alone_failures, pair_failures, takes_item, begins, call_does}
use Rattle.deck.specs.CallsMade.{outcome, Made, no_call, call_more}
use Rattle.deck.specs.Recorded.{answered, NoStop, StopTells, StopCounts}
use Rattle.deck.proofs.ListedNumbers.{Below, below_one, below_more, taken_out, not_there}

-- what a recording has kept, by its numbers
abbrev Counts : List Numbered → DeckState → Type 0
Counts own deck_idle = ⊥
Counts own (deck_recording s nothing_pending) = (s.first + length own ≡ s.next) × Below s.next own
Counts own (deck_recording s (item_pending x)) = (mine : List Numbered) × (n : ℕ) × (own ≡ mine ++ (item_of n x ∷ [])) × (s.next ≡ suc n) × (s.first + length mine ≡ n) × Below n mine
Counts own (deck_recording s (item_failed n)) = (s.next ≡ suc n) × (s.first + length own ≡ n) × Below n own

length_one : (is : List Numbered) (i : Numbered) → length (is ++ (i ∷ [])) ≡ suc (length is)
length_one is i = omega (arith, length-append is (i ∷ []))

-- what was kept is counted and its numbers are below the next, in either phase that takes an item
all-counted : (own : List Numbered) (s : RecordingNumbers) (x : Content) → Counts own (deck_recording s (item_pending x)) → (s.first + length own ≡ s.next) × Below s.next own
all-counted own s x (mine, n, e, k, l, b) =
    let size : length own ≡ suc (length mine) = ap length e ∙ length_one mine (item_of n x) in
    (omega arith, subst (Below s.next) (sym e) (below_one s.next mine (item_of n x) (below_more n s.next mine (omega arith) b) (omega arith)))

-- the pending item is the last of the list
last_out : (own : List Numbered) (s : RecordingNumbers) (x : Content) → (h : Counts own (deck_recording s (item_pending x))) → without (s.next - 1) own ≡ h.0
last_out own s x (mine, n, e, k, l, b) = let z : s.next - 1 ≡ n = omega arith in ap (λ (j : ℕ). without j own) z ∙ (ap (without n) e ∙ taken_out mine (item_of n x) b)

module _ (own : List Numbered) (call : DeckCall) where
  abbrev Kept : CallOutcome → Type 0
  Kept o = Counts (kept_after own (answered call o.answer)) o.state

  accepted : (s : RecordingNumbers) (x : Content) → handed_in call s.next ≡ item_of s.next x ∷ [] → s.first + length own ≡ s.next → Below s.next own → Counts (own ++ handed_in call s.next) (deck_recording (record { first = s.first; next = suc s.next }) (item_pending x))
  accepted s x h e b = (own, s.next, ap (λ (z : List Numbered). own ++ z) h, refl, e, b)

  failed : (s : RecordingNumbers) (x : Content) → Counts own (deck_recording s (item_pending x)) → Counts (without (s.next - 1) own) (deck_recording s (item_failed (s.next - 1)))
  failed s x h =
      let z : s.next - 1 ≡ h.1 = omega (arith, h.3) in
      subst (λ (o : List Numbered). (s.next ≡ suc (s.next - 1)) × (s.first + length o ≡ s.next - 1) × Below (s.next - 1) o) (sym (last_out own s x h))
      (omega (arith, h.3), omega (arith, h.4), subst (λ (j : ℕ). Below j h.0) (sym z) h.5)

  kept-item : (good : CopyAt → Bool) (room : ℕ) (c : Tape) (s : RecordingNumbers) (p : RecordingPhase) (x : Content) → handed_in call s.next ≡ item_of s.next x ∷ [] → Counts own (deck_recording s p) → Kept (takes_item room c good s p (item_of s.next x))
  kept-item good room c s (item_failed n) x e h = subst (λ (o : List Numbered). Counts o (deck_recording s (item_failed n))) (sym (not_there n own h.2)) h
  kept-item good room c s nothing_pending x e h =
      cond_both (eqb s.next number_limit) _ _ Kept (λ _. h)
      (λ _. cond_both (short_of_room room c) _ _ Kept (λ _. cond_both (media_ends room c) _ _ Kept (λ _. h) (λ _. accepted s x e h.0 h.1)) (λ _. accepted s x e h.0 h.1))
  kept-item good room c s (item_pending y) x e h =
      let w = all-counted own s y h in
      cond_both (eqb s.next number_limit) _ _ Kept (λ _. h)
      (λ _. cond_both (short_of_room room c) _ _ Kept
      (λ _. cond_both (media_ends room c) _ _ Kept (λ _. h)
      (λ _. cond_both (short_to_finish room c) _ _ Kept (λ _. failed s y h) (λ _. cond_both (ltb (alone_failures room c good (pending_copy c s y)) most_writings) _ _ Kept (λ _. accepted s x e w.0 w.1) (λ _. failed s y h))))
      (λ _. cond_both (ltb (pair_failures room c good (pending_copy c s y)) most_writings) _ _ Kept (λ _. accepted s x e w.0 w.1) (λ _. failed s y h)))

kept : (own : List Numbered) (r : ReplayProgress) (good : CopyAt → Bool) (room : ℕ) (c : Tape) (s : DeckState) (call : DeckCall) → (call ≡ stop_call → ⊥) → Counts own s → Kept own call (call_does r good room c s call)
kept own r good room c deck_idle call n h = absurd h
kept own r good room c (deck_recording s p) begin_call n h = h
kept own r good room c (deck_recording s p) (write_call bs) n h = cond_both (eqb (length bs) 512) _ _ (Kept own (write_call bs)) (λ _. kept-item own (write_call bs) good room c s p (Block bs) refl h) (λ _. h)
kept own r good room c (deck_recording s p) mark_call n h = kept-item own mark_call good room c s p Mark refl h
kept own r good room c (deck_recording s p) stop_call n h = absurd (n refl)

-- what a stop tells of the list so far
abbrev Tells : List Numbered → DeckAnswer → Type 0
Tells own a = StopTells a own (kept_after own (answered stop_call a))

-- the stop that closes it
stops : (own : List Numbered) (r : ReplayProgress) (good : CopyAt → Bool) (room : ℕ) (c : Tape) (s : DeckState) → Counts own s → Tells own (call_does r good room c s stop_call).answer
stops own r good room c deck_idle h = absurd h
stops own r good room c (deck_recording s nothing_pending) h = (omega (arith, h.0), refl)
stops own r good room c (deck_recording s (item_failed n)) h = (omega (arith, h.0, h.1), refl)
stops own r good room c (deck_recording s (item_pending x)) h =
    cond_both (short_to_finish room c) _ _ (λ (o : CallOutcome). Tells own o.answer) (λ _. out)
    (λ _. cond_both (ltb (alone_failures room c good (pending_copy c s x)) most_writings) _ _ (Tells own) (λ _. (omega (arith, (all-counted own s x h).0), refl)) (λ _. out))
  where
    out : Tells own (unwritable (s.next - 1))
    out = (item_of h.1 x, h.2 ∙ ap (λ (z : List Numbered). z ++ (item_of h.1 x ∷ [])) (sym (last_out own s x h)), omega (arith, h.3))

-- the first of some calls, and the others
abbrev first_of : AnsweredCall → List AnsweredCall → AnsweredCall
first_of d [] = d
first_of d (x ∷ xs) = x

abbrev rest_of : List AnsweredCall → List AnsweredCall
rest_of [] = []
rest_of (x ∷ xs) = xs

begun : (r : ReplayProgress) (room n : ℕ) (c : Tape) (good : CopyAt → Bool) → (call_does r good room c deck_idle begin_call).answer ≡ next_number n → Counts [] (call_does r good room c deck_idle begin_call).state
begun r room n c good = cond_both (ltb room item_room) _ _ (λ (o : CallOutcome). o.answer ≡ next_number n → Counts [] o.state) (λ _ q. absurd (let z : ◌≡◌ {A = ℕ} 0 1 = cc in omega arith)) (λ _. go r.state r.unsound)
  where
    go : (x : ReplayState) (u : Option UnsoundOpening) → (begins x u).answer ≡ next_number n → Counts [] (begins x u).state
    go (expecting out k b) u q = (omega arith, tt)
    go (not_located out k p) u q = absurd (let z : ◌≡◌ {A = ℕ} 0 1 = cc in omega arith)

module _ (room : ℕ) where
  up_to_stop : (own : List Numbered) (ds : List AnsweredCall) (a : DeckAnswer) (c : Tape) (s : DeckState) (calls : List AnsweredCall) (log : List CopyAt) (e : Tape) (t : DeckState) → calls ≡ ds ++ (answered stop_call a ∷ []) → NoStop ds → Made room c s calls log e t → Counts own s → Tells (fold kept_after own ds) a
  up_to_stop own [] a c s calls log e t q n no_call h = let z : ◌≡◌ {A = ℕ} 0 1 = ap length q in absurd (omega arith)
  up_to_stop own [] a c s calls log e t q n (call_more call m g then) h =
      let p : answered call (outcome room c m s call).answer ≡ answered stop_call a = ap (first_of (answered stop_call a)) q in
      let k : call ≡ stop_call = ap (λ (d : AnsweredCall). d.call) p in
      let w : (outcome room c m s stop_call).answer ≡ a = ap (λ (d : DeckCall). (outcome room c m s d).answer) (sym k) ∙ ap (λ (d : AnsweredCall). d.answer) p in
      subst (Tells own) w (stops own (tape_replay c) (stands m) room c s h)
  up_to_stop own (d ∷ ds) a c s calls log e t q n no_call h = let z : 0 ≡ suc (length (ds ++ (answered stop_call a ∷ []))) = ap length q in absurd (omega arith)
  up_to_stop own (d ∷ ds) a c s calls log e t q n (call_more {ds = rest} {log = later} call m g then) h =
      let p : answered call (outcome room c m s call).answer ≡ d = ap (first_of d) q in
      let k : call ≡ d.call = ap (λ (x : AnsweredCall). x.call) p in
      up_to_stop (kept_after own d) ds a m (outcome room c m s call).state rest later e t (ap rest_of q) n.1 then
      (subst (λ (x : AnsweredCall). Counts (kept_after own x) (outcome room c m s call).state) p (kept own (tape_replay c) (stands m) room c s call (λ z. n.0 (sym k ∙ z)) h))

  from_begin : (n : ℕ) (ds : List AnsweredCall) (a : DeckAnswer) (c : Tape) (calls : List AnsweredCall) (log : List CopyAt) (e : Tape) (s t : DeckState) → s ≡ deck_idle → calls ≡ answered begin_call (next_number n) ∷ (ds ++ (answered stop_call a ∷ [])) → NoStop ds → Made room c s calls log e t → Tells (fold kept_after [] ds) a
  from_begin n ds a c calls log e s t i q k no_call = let z : 0 ≡ suc (length (ds ++ (answered stop_call a ∷ []))) = ap length q in absurd (omega arith)
  from_begin n ds a c calls log e s t i q k (call_more {ds = rest} {log = later} call m g then) =
      let p : answered call (outcome room c m s call).answer ≡ answered begin_call (next_number n) = ap (first_of (answered begin_call (next_number n))) q in
      let w : call ≡ begin_call = ap (λ (d : AnsweredCall). d.call) p in
      let o : outcome room c m s call ≡ outcome room c m deck_idle begin_call = ap (λ (x : DeckState). outcome room c m x call) i ∙ ap (outcome room c m deck_idle) w in
      up_to_stop [] ds a m (outcome room c m s call).state rest later e t (ap rest_of q) k then
      (subst (λ (x : CallOutcome). Counts [] x.state) (sym o) (begun (tape_replay c) room n c (stands m) (ap (λ (x : CallOutcome). x.answer) (sym o) ∙ ap (λ (d : AnsweredCall). d.answer) p)))

pub stop-counts : StopCounts
stop-counts room n b e ds a log t k d =
    subst (StopTells a (kept_list ds)) (sym (fold-append kept_after ds (answered stop_call a ∷ []) []))
    (from_begin room n ds a b (answered begin_call (next_number n) ∷ (ds ++ (answered stop_call a ∷ []))) log e deck_idle t refl refl k d)
