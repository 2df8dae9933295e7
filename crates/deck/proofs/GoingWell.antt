-- On a medium that spoils nothing every call goes well.
use Rattle.std.proofs.Common.{◌≡◌, ℕ, suc, ◌+◌, ◌-◌, ◌<◌, ◌≤◌, Bool, true, false, cond, eqb, ltb, leb, List, [], ◌∷◌, length, Option, sym, refl, ap, ◌∙◌, subst, ⊎_elim, arith}
use Rattle.std.proofs.lemmas.Bool.{ltb-true, leb-true, eqb-true, eqb-false, cond_both, cond-true}
use Rattle.qic24.specs.Copy.{Numbered, Proper, ProperContent}
use Rattle.qic24.specs.declared.item.Content.{Content}
use Rattle.qic24.specs.declared.item.Content.TheVariants.{Block, Mark}
use Rattle.tape.specs.Tape.{Tape, Grown}
use Rattle.replay.specs.Copies.{OfCartridge, CopyAt, placed, In, here, there, Sound}
use Rattle.replay.specs.declared.place.TapePlace.{TapePlace}
use Rattle.replay.specs.Replay.{ReplayState, expecting, not_located, ReplayProgress}
use Rattle.replay.specs.Scan.{stands}
use Rattle.replay.specs.Seeking.{tape_replay}
use Rattle.replay.specs.declared.unlocated.UnsoundOpening.{UnsoundOpening}
use Rattle.replay.proofs.Growing.{Extends, grown_extends, sound_same}
use Rattle.replay.proofs.Orders.{split}
use Rattle.replay.proofs.SoundCopies.{stands_exactly}
use Rattle.deck.specs.Measures.{item_room, number_limit}
use Rattle.deck.specs.Calls.{DeckCall, begin_call, write_call, mark_call, stop_call, next_number, kept_total, unwritable, AnsweredCall, item_of}
use Rattle.deck.specs.Rewriting.{failed_writings}
use Rattle.deck.specs.Deck.{RecordingPhase, nothing_pending, item_pending, item_failed, RecordingNumbers, DeckState, deck_idle, deck_recording, CallOutcome, declines, end_track, end_place, pending_copy, accepts, fails, alone_at, first_on, starts, pending_at, new_at, follows, changes_track, short_of_room, short_to_finish, media_ends, pair_failures, takes_item, closes, finishes, stop_does, begins, call_does}
use Rattle.deck.specs.CallsMade.{outcome, Made, no_call, call_more}
use Rattle.deck.specs.Recorded.{NeverShort}
use Rattle.deck.specs.Unspoiled.{AsSent, NoneSpoiled, OfBytes, AllOfBytes, WithinLimits, AnswersWell, GoesWell, AllGoesWell}
use Rattle.deck.proofs.CopyLengths.{full, sound-whole}
use Rattle.deck.proofs.CallRuns.{EmptyPast, Valid, past-end_track}
use Rattle.deck.proofs.MadeCalls.{step_fine}
use Rattle.deck.proofs.NeverShort.{strictly, Sure, keeps, replay_range}
use Rattle.deck.proofs.CarriedCopies.{carry}
use Rattle.deck.proofs.PendingCopies.{not_short, one_taken, starts_pending, follows_pending, changes_pending}
use Rattle.deck.proofs.SentCopies.{carried_sound}
use Rattle.deck.proofs.CartridgeCells.{carried_cells}

-- the pending item's copy is sound, and none has failed
abbrev pub Well : Tape → DeckState → Type 0
Well c deck_idle = Unit {0}
Well c (deck_recording s nothing_pending) = Unit {0}
Well c (deck_recording s (item_pending x)) = ProperContent x × Sound c (pending_copy c s x)
Well c (deck_recording s (item_failed n)) = ⊥

-- the pending item's copy is known to be good
abbrev pub GoodThere : (CopyAt → Bool) → Tape → DeckState → Type 0
GoodThere good c deck_idle = Unit {0}
GoodThere good c (deck_recording s nothing_pending) = Unit {0}
GoodThere good c (deck_recording s (item_pending x)) = good (pending_copy c s x) ≡ true
GoodThere good c (deck_recording s (item_failed n)) = Unit {0}

pub good_there : (c m : Tape) (s : DeckState) → Extends c m → OfCartridge m → Well c s → GoodThere (stands m) c s
good_there c m deck_idle x k w = tt
good_there c m (deck_recording s nothing_pending) x k w = tt
good_there c m (deck_recording s (item_pending y)) x k w = (stands_exactly m k (pending_copy c s y)).1 ((sound_same c m (pending_copy c s y) x (sound-whole c (pending_copy c s y) w.1)).1 w.1)
good_there c m (deck_recording s (item_failed n)) x k w = tt

none_failed : (good : CopyAt → Bool) (N : CopyAt) (at : ℕ → TapePlace) → good N ≡ true → failed_writings good N at ≡ 0
unfolding failed_writings
none_failed good N at e = cond-true (good N) 0 _ e

module _ (room : ℕ) (c : Tape) where
  -- the next item, where a copies of the pending one failed before a change of track, or b with the new one
  abbrev after_failures : RecordingNumbers → Content → Numbered → ℕ → ℕ → CallOutcome
  after_failures s x M a b =
      cond (eqb s.next number_limit) (declines 13 (deck_recording s (item_pending x)))
      (cond (short_of_room room c)
      (cond (media_ends room c) (declines 12 (deck_recording s (item_pending x))) (cond (short_to_finish room c) (fails s (s.next - 1) [] []) (changes_track room c s (pending_copy c s x) M a)))
      (follows room c s (pending_copy c s x) M b))

  item_good : (good : CopyAt → Bool) (s : RecordingNumbers) (x : Content) (M : Numbered) → good (pending_copy c s x) ≡ true → takes_item room c good s (item_pending x) M ≡ after_failures s x M 0 0
  item_good good s x M e =
      ap (λ (k : ℕ). after_failures s x M k (pair_failures room c good (pending_copy c s x))) (none_failed good (pending_copy c s x) (alone_at room c) e) ∙
      ap (after_failures s x M 0) (none_failed good (pending_copy c s x) (pending_at room c) e)

  stop_good : (good : CopyAt → Bool) (s : RecordingNumbers) (x : Content) → good (pending_copy c s x) ≡ true → stop_does room c good (deck_recording s (item_pending x)) ≡ cond (short_to_finish room c) (closes room c (unwritable (s.next - 1)) [] []) (finishes room c s (pending_copy c s x) 0)
  stop_good good s x e = ap (λ (k : ℕ). cond (short_to_finish room c) (closes room c (unwritable (s.next - 1)) [] []) (finishes room c s (pending_copy c s x) k)) (none_failed good (pending_copy c s x) (alone_at room c) e)

  same_item : (good : CopyAt → Bool) (s : RecordingNumbers) (p : RecordingPhase) (M : Numbered) → GoodThere good c (deck_recording s p) → takes_item room c good s p M ≡ takes_item room c (λ f. true) s p M
  same_item good s nothing_pending M e = refl
  same_item good s (item_failed n) M e = refl
  same_item good s (item_pending x) M e = item_good good s x M e ∙ sym (item_good (λ f. true) s x M refl)

  pub as_good : (r : ReplayProgress) (good : CopyAt → Bool) (s : DeckState) (call : DeckCall) → GoodThere good c s → call_does r good room c s call ≡ call_does r (λ f. true) room c s call
  as_good r good s begin_call e = refl
  as_good r good deck_idle (write_call bs) e = refl
  as_good r good (deck_recording s p) (write_call bs) e = ap (λ (o : CallOutcome). cond (eqb (length bs) 512) o (declines 1 (deck_recording s p))) (same_item good s p (item_of s.next (Block bs)) e)
  as_good r good deck_idle mark_call e = refl
  as_good r good (deck_recording s p) mark_call e = same_item good s p (item_of s.next Mark) e
  as_good r good deck_idle stop_call e = refl
  as_good r good (deck_recording s nothing_pending) stop_call e = refl
  as_good r good (deck_recording s (item_failed n)) stop_call e = refl
  as_good r good (deck_recording s (item_pending x)) stop_call e = stop_good good s x e ∙ sym (stop_good (λ f. true) s x refl)

  module _ (m : Tape) where
    -- an outcome with no failure in it
    pub record Clean (o : CallOutcome) : Type 0 where
      pub proper : (f : CopyAt) → In f o.puts → Proper f.item
      pub once : (f g : CopyAt) → In f o.puts → In g o.puts → f.item ≡ g.item → f ≡ g
      pub written : (n : ℕ) → o.answer ≡ unwritable n → ⊥
      pub well : ((f : CopyAt) → In f o.puts → Sound m f) → Well m o.state

    abbrev ComesClean : CallOutcome → Type 0
    ComesClean o = Grown c o.runs m → Clean o

    quiet : (o : CallOutcome) → o.puts ≡ [] → ((n : ℕ) → o.answer ≡ unwritable n → ⊥) → Well m o.state → Clean o
    quiet o e a w = record {
      proper = λ f i. elim (subst (In f) e i) [ ];
      once = λ f g i j q. elim (subst (In f) e i) [ ];
      written = a;
      well = λ s. w;
    }

    clean_declines : (k : ℕ) (s : DeckState) → Well c s → ComesClean (declines k s)
    clean_declines k s w g = quiet (declines k s) refl (λ n e. absurd (let z : ◌≡◌ {A = ℕ} 0 1 = cc in omega arith)) (subst (λ (x : Tape). Well x s) (sym g) w)

    -- the next number, and the one before it
    proper_new : (s : RecordingNumbers) (p : RecordingPhase) (x : Content) → NeverShort room c s p → eqb s.next number_limit ≡ false → ProperContent x → Proper (item_of s.next x)
    proper_new s p x h e r =
        let l = strictly s.next number_limit h.most (eqb-false s.next number_limit e) in
        record { content = r; least = omega (arith, h.least, h.in_order); most = omega arith }

    proper_old : (s : RecordingNumbers) (x : Content) → NeverShort room c s (item_pending x) → ProperContent x → Proper (item_of (s.next - 1) x)
    proper_old s x h r = record { content = r; least = omega (arith, h.least, h.phase.0); most = omega (arith, h.most) }

    -- one copy of the new item
    clean_one : (s : RecordingNumbers) (x : Content) (rs : _) (f : CopyAt) → f.item ≡ item_of s.next x → Proper (item_of s.next x) → pending_copy m (one_taken s) x ≡ f → Clean (accepts s (item_of s.next x) rs (f ∷ []))
    clean_one s x rs f e r p = record {
      proper = λ g i. split g f [] i (λ q. subst Proper (sym (ap (λ (z : CopyAt). z.item) q ∙ e)) r) (λ j. elim j [ ]);
      once = λ g h i j q. split g f [] i (λ a. split h f [] j (λ b. a ∙ sym b) (λ k. elim k [ ])) (λ k. elim k [ ]);
      written = λ n q. absurd (let z : ◌≡◌ {A = ℕ} 0 1 = cc in omega arith);
      well = λ s. (r.content, subst (Sound m) (sym p) (s f here));
    }

    -- one copy of the pending item again, and one of the new item
    clean_two : (s : RecordingNumbers) (y x : Content) (rs : _) (N f : CopyAt) → N.item ≡ item_of (s.next - 1) y → f.item ≡ item_of s.next x → 1 ≤ s.next → Proper (item_of (s.next - 1) y) → Proper (item_of s.next x) → pending_copy m (one_taken s) x ≡ f → Clean (accepts s (item_of s.next x) rs (N ∷ (f ∷ [])))
    clean_two s y x rs N f d e k q r p = record {
      proper = λ g i. split g N (f ∷ []) i (λ a. subst Proper (sym (ap (λ (z : CopyAt). z.item) a ∙ d)) q) (λ j. split g f [] j (λ a. subst Proper (sym (ap (λ (z : CopyAt). z.item) a ∙ e)) r) (λ l. elim l [ ]));
      once = λ g h i j a.
          split g N (f ∷ []) i
          (λ b. split h N (f ∷ []) j (λ b'. b ∙ sym b') (λ l. split h f [] l (λ b'. absurd (apart (sym (ap (λ (z : CopyAt). z.item) b) ∙ (a ∙ ap (λ (z : CopyAt). z.item) b')))) (λ l'. elim l' [ ])))
          (λ l. split g f [] l (λ b. split h N (f ∷ []) j (λ b'. absurd (apart (sym (ap (λ (z : CopyAt). z.item) b') ∙ (sym a ∙ ap (λ (z : CopyAt). z.item) b)))) (λ l'. split h f [] l' (λ b'. b ∙ sym b') (λ l''. elim l'' [ ]))) (λ l'. elim l' [ ]));
      written = λ n q. absurd (let z : ◌≡◌ {A = ℕ} 0 1 = cc in omega arith);
      well = λ s. (r.content, subst (Sound m) (sym p) (s f (there here)));
    }
      where
        apart : N.item ≡ f.item → ⊥
        apart z = let n : s.next - 1 ≡ s.next = ap (λ (i : Numbered). i.number) (sym d ∙ (z ∙ e)) in omega arith

    clean_starts : (s : RecordingNumbers) (t : ℕ) (x : Content) → Proper (item_of s.next x) → EmptyPast c t → ComesClean (starts room c s t (item_of s.next x))
    clean_starts s t x r past g = clean_one s x _ (first_on room c t (item_of s.next x)) refl r (starts_pending room c m s x t (full x r.content) past g)

    clean_item : (s : RecordingNumbers) (p : RecordingPhase) (x : Content) → ProperContent x → Valid room c (deck_recording s p) → NeverShort room c s p → Well c (deck_recording s p) → ComesClean (takes_item room c (λ f. true) s p (item_of s.next x))
    clean_item s (item_failed n) x r v h w = absurd w
    clean_item s nothing_pending x r v h w =
        cond_both (eqb s.next number_limit) _ _ ComesClean (λ _. clean_declines 13 (deck_recording s nothing_pending) w)
        (λ e. cond_both (short_of_room room c) _ _ ComesClean
        (λ _. cond_both (media_ends room c) _ _ ComesClean (λ _. clean_declines 12 (deck_recording s nothing_pending) w) (λ _. clean_starts s (suc (end_track c)) x (proper_new s nothing_pending x h e r) (λ u l. past-end_track c u (omega arith))))
        (λ _. clean_starts s (end_track c) x (proper_new s nothing_pending x h e r) (past-end_track c)))
    clean_item s (item_pending y) x r v h w =
        subst ComesClean (sym (item_good (λ f. true) s y (item_of s.next x) refl))
        (cond_both (eqb s.next number_limit) _ _ ComesClean (λ _. clean_declines 13 (deck_recording s (item_pending y)) w)
        (λ e. cond_both (short_of_room room c) _ _ ComesClean
        (λ _. cond_both (media_ends room c) _ _ ComesClean (λ _. clean_declines 12 (deck_recording s (item_pending y)) w)
        (λ _. cond_both (short_to_finish room c) _ _ ComesClean (λ z. absurd (not_short room c s y v z))
        (λ _ g. clean_two s y x _ (placed (alone_at room c 1) (item_of (s.next - 1) y)) (first_on room c (suc (end_track c)) (item_of s.next x)) refl refl (omega (arith, h.phase.0)) (proper_old s y h w.0) (proper_new s (item_pending y) x h e r)
        (changes_pending room c m s x (pending_copy c s y) 0 v.3 (full x r) g))))
        (λ _ g. clean_one s x _ (placed (new_at room c 0) (item_of s.next x)) refl (proper_new s (item_pending y) x h e r) (follows_pending room c m s x (pending_copy c s y) 0 (omega arith) v.3 (full x r) g))))

    clean_finishes : (s : RecordingNumbers) (y : Content) → Proper (item_of (s.next - 1) y) → Clean (finishes room c s (pending_copy c s y) 0)
    clean_finishes s y r = record {
      proper = λ g i. split g (placed (alone_at room c 1) (item_of (s.next - 1) y)) [] i (λ q. subst Proper (sym (ap (λ (z : CopyAt). z.item) q)) r) (λ j. elim j [ ]);
      once = λ g h i j q. split g (placed (alone_at room c 1) (item_of (s.next - 1) y)) [] i (λ a. split h (placed (alone_at room c 1) (item_of (s.next - 1) y)) [] j (λ b. a ∙ sym b) (λ k. elim k [ ])) (λ k. elim k [ ]);
      written = λ n q. absurd (let z : ◌≡◌ {A = ℕ} 0 1 = cc in omega arith);
      well = λ s. tt;
    }

    clean_begins : (r : ReplayState) (u : Option UnsoundOpening) → ComesClean (begins r u)
    clean_begins (expecting out n b) u g = quiet (begins (expecting out n b) u) refl (λ k e. absurd (let z : ◌≡◌ {A = ℕ} 0 1 = cc in omega arith)) tt
    clean_begins (not_located out n p) u g = quiet (begins (not_located out n p) u) refl (λ k e. absurd (let z : ◌≡◌ {A = ℕ} 0 1 = cc in omega arith)) tt

    clean : (r : ReplayProgress) (s : DeckState) (call : DeckCall) → OfBytes call → Valid room c s → Sure room c s → Well c s → ComesClean (call_does r (λ f. true) room c s call)
    clean r deck_idle begin_call b v h w = cond_both (ltb room item_room) _ _ ComesClean (λ _. clean_declines 11 deck_idle tt) (λ _. clean_begins r.state r.unsound)
    clean r (deck_recording s p) begin_call b v h w = clean_declines 16 (deck_recording s p) w
    clean r deck_idle (write_call bs) b v h w = clean_declines 15 deck_idle tt
    clean r (deck_recording s p) (write_call bs) b v h w =
        cond_both (eqb (length bs) 512) _ _ ComesClean (λ e. clean_item s p (Block bs) (eqb-true (length bs) 512 e, b) v h w) (λ _. clean_declines 1 (deck_recording s p) w)
    clean r deck_idle mark_call b v h w = clean_declines 15 deck_idle tt
    clean r (deck_recording s p) mark_call b v h w = clean_item s p Mark tt v h w
    clean r deck_idle stop_call b v h w = clean_declines 15 deck_idle tt
    clean r (deck_recording s nothing_pending) stop_call b v h w = λ g. quiet (stop_does room c (λ f. true) (deck_recording s nothing_pending)) refl (λ k e. absurd (let z : ◌≡◌ {A = ℕ} 0 1 = cc in omega arith)) tt
    clean r (deck_recording s (item_failed n)) stop_call b v h w = absurd w
    clean r (deck_recording s (item_pending y)) stop_call b v h w =
        subst ComesClean (sym (stop_good (λ f. true) s y refl))
        (cond_both (short_to_finish room c) _ _ ComesClean (λ z. absurd (not_short room c s y v z)) (λ _ g. clean_finishes s y (proper_old s y h w.0)))

    -- what is answered
    abbrev Taken : RecordingNumbers → CallOutcome → Type 0
    Taken s o = o.answer ≡ next_number s.next

    no_end : (s : RecordingNumbers) → item_room ≤ room → WithinLimits room c s → short_of_room room c ≡ true → media_ends room c ≡ true → ⊥
    no_end s big l short e =
        let h = ltb-true (room - end_place c) item_room short in
        ⊎_elim (λ (k : end_place c + item_room ≤ room). omega arith) (λ (k : suc (end_track c) < length c). go (ltb room item_room) refl e k) l.cells
      where
        go : (b : Bool) → ltb room item_room ≡ b → cond b true (leb (length c) (suc (end_track c))) ≡ true → suc (end_track c) < length c → ⊥
        go true q e k = omega (arith, ltb-true room item_room q)
        go false q e k = omega (arith, leb-true (length c) (suc (end_track c)) e)

    number-left : (s : RecordingNumbers) → WithinLimits room c s → eqb s.next number_limit ≡ true → ⊥
    number-left s l e = omega (arith, l.number, eqb-true s.next number_limit e)

    item-taken : (s : RecordingNumbers) (p : RecordingPhase) (x : Content) → Valid room c (deck_recording s p) → Well c (deck_recording s p) → WithinLimits room c s → Taken s (takes_item room c (λ f. true) s p (item_of s.next x))
    item-taken s (item_failed n) x v w l = absurd w
    item-taken s nothing_pending x v w l =
        cond_both (eqb s.next number_limit) _ _ (Taken s) (λ e. absurd (number-left s l e))
        (λ _. cond_both (short_of_room room c) _ _ (Taken s) (λ t. cond_both (media_ends room c) _ _ (Taken s) (λ e. absurd (no_end s v l t e)) (λ _. refl)) (λ _. refl))
    item-taken s (item_pending y) x v w l =
        subst (Taken s) (sym (item_good (λ f. true) s y (item_of s.next x) refl))
        (cond_both (eqb s.next number_limit) _ _ (Taken s) (λ e. absurd (number-left s l e))
        (λ _. cond_both (short_of_room room c) _ _ (Taken s)
        (λ t. cond_both (media_ends room c) _ _ (Taken s) (λ e. absurd (no_end s v.0 l t e)) (λ _. cond_both (short_to_finish room c) _ _ (Taken s) (λ z. absurd (not_short room c s y v z)) (λ _. refl))) (λ _. refl)))

    answers_well : (r : ReplayProgress) (s : DeckState) (call : DeckCall) → Valid room c s → Well c s → AnswersWell room c s call (call_does r (λ f. true) room c s call).answer
    answers_well r deck_idle call v w = tt
    answers_well r (deck_recording s p) begin_call v w = tt
    answers_well r (deck_recording s p) (write_call bs) v w = λ e l. cond_both (eqb (length bs) 512) _ _ (Taken s) (λ _. item-taken s p (Block bs) v w l) (λ d. absurd (eqb-false (length bs) 512 d e))
    answers_well r (deck_recording s p) mark_call v w = item-taken s p Mark v w
    answers_well r (deck_recording s nothing_pending) stop_call v w = refl
    answers_well r (deck_recording s (item_failed n)) stop_call v w = absurd w
    answers_well r (deck_recording s (item_pending y)) stop_call v w =
        subst (λ (o : CallOutcome). o.answer ≡ kept_total (s.next - s.first)) (sym (stop_good (λ f. true) s y refl))
        (cond_both (short_to_finish room c) _ _ (λ (o : CallOutcome). o.answer ≡ kept_total (s.next - s.first)) (λ z. absurd (not_short room c s y v z)) (λ _. refl))

-- what holds after calls that spoiled nothing
pub record GoesOnWell (room : ℕ) (c : Tape) (s : DeckState) : Type 0 where
  pub cells : OfCartridge c
  pub valid : Valid room c s
  pub sure : Sure room c s
  pub well : Well c s

-- one call
pub goes_well : (room : ℕ) (c m : Tape) (s : DeckState) (call : DeckCall) (g : Grown c (outcome room c m s call).runs m) → AsSent (outcome room c m s call).runs c m g → OfBytes call → GoesOnWell room c s → GoesWell room c m s call × GoesOnWell room m (outcome room c m s call).state
goes_well room c m s call g a b w =
    let v = (step_fine room c m s call w.valid g).valid in
    let sends = carry room c (tape_replay c) (stands m) s call w.valid in
    let k = carried_cells _ c m (outcome room c m s call).runs (outcome room c m s call).puts sends g a w.cells in
    let same = as_good room c (tape_replay c) (stands m) s call (good_there c m s (grown_extends (outcome room c m s call).runs c m g) k w.well) in
    let q : Clean room c m (outcome room c m s call) = subst (Clean room c m) (sym same) (clean room c m (tape_replay c) s call b w.valid w.sure w.well (subst (λ (o : CallOutcome). Grown c o.runs m) same g)) in
    let all = carried_sound _ c m (outcome room c m s call).runs (outcome room c m s call).puts sends g a q.proper in (
      record {
        sound = all;
        once = q.once;
        written = q.written;
        answered = subst (λ (o : CallOutcome). AnswersWell room c s call o.answer) (sym same) (answers_well room c m (tape_replay c) s call w.valid w.well);
        as_good = same;
      },
      record { cells = k; valid = v; sure = keeps room c m (tape_replay c) (stands m) s call (replay_range c w.cells) w.valid w.sure g v; well = q.well all },
    )

pub goes_on_well : (room : ℕ) (c : Tape) (s : DeckState) (ds : List AnsweredCall) (log : List CopyAt) (e : Tape) (t : DeckState) (d : Made room c s ds log e t) → NoneSpoiled room c s ds log e t d → AllOfBytes ds → GoesOnWell room c s → GoesOnWell room e t
goes_on_well room c s ds log e t no_call n b w = w
goes_on_well room c s ds log e t (call_more {ds = rest} {log = later} call m g then) n b w = goes_on_well room m (outcome room c m s call).state rest later e t then n.1 b.1 (goes_well room c m s call g n.0 b.0 w).1

pub all_goes_well : AllGoesWell
all_goes_well room b k ds log c s d n y call m g a z = (goes_well room c m s call g a z (goes_on_well room b deck_idle ds log c s d n y (record { cells = k; valid = tt; sure = tt; well = tt }))).0
