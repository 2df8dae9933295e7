-- An open recording never runs short.
use Rattle.std.proofs.Common.{◌≡◌, ℕ, suc, ◌+◌, ◌-◌, ◌*◌, ◌<◌, ◌≤◌, min, Bool, false, eqb, ltb, List, [], ◌∷◌, length, Option, sym, refl, ap, ◌∙◌, subst, arith}
use Rattle.std.proofs.lemmas.Bool.{ltb-false, eqb-true, eqb-false, cond_both}
use Rattle.qic24.specs.Cells.{fold}
use Rattle.qic24.specs.Copy.{Numbered}
use Rattle.qic24.specs.declared.item.Content.TheVariants.{Block, Mark}
use Rattle.qic24.specs.declared.layout.Preamble.TheVariants.{Normal, Elongated, Long}
use Rattle.tape.specs.Tape.{Tape, track, Longer, Grown}
use Rattle.replay.specs.Copies.{OfCartridge, CopyAt, In, here, there}
use Rattle.replay.specs.Replay.{ReplayState, expecting, not_located, advance, rewound, ReplayProgress}
use Rattle.replay.specs.Scan.{sound_copies, stands}
use Rattle.replay.specs.Seeking.{tape_replay}
use Rattle.replay.specs.declared.unlocated.UnsoundOpening.{UnsoundOpening}
use Rattle.replay.proofs.SoundCopies.{lists_sound_copies}
use Rattle.replay.proofs.Replaying.{replays_sound_copies}
use Rattle.replay.proofs.Growing.{grown_extends, of_cartridge_before}
use Rattle.deck.specs.Measures.{copy_tail, copy_head, normal_copy, most_writings, more_writings, item_room, number_limit}
use Rattle.deck.specs.Calls.{DeckCall, begin_call, write_call, mark_call, stop_call, AnsweredCall, item_of}
use Rattle.deck.specs.Deck.{RecordingPhase, nothing_pending, item_pending, item_failed, RecordingNumbers, DeckState, deck_idle, deck_recording, CallOutcome, declines, copy_run, first_preamble, end_track, end_place, pending_copy, first_on, starts, follows, changes_track, short_of_room, short_to_finish, media_ends, alone_failures, pair_failures, takes_item, begins, call_does}
use Rattle.deck.specs.CallsMade.{outcome, Made, no_call, call_more}
use Rattle.deck.specs.Recorded.{NeverShort, NothingRunsShort}
use Rattle.deck.proofs.CopyLengths.{Full}
use Rattle.deck.proofs.CallRuns.{EmptyPast, Valid, past-end_track, end_place-is, start_grew, pairs_grew, change_grew}
use Rattle.deck.proofs.MadeCalls.{step_fine, made_extends}

-- the number that a replay expects is one that an address holds, or the first that none does
abbrev pub InRange : ReplayState → Type 0
InRange (expecting out n b) = (1 ≤ n) × (n ≤ number_limit)
InRange (not_located out n p) = Unit {0}

advance_range : (r : ReplayState) (f : CopyAt) → f.item.number < number_limit → InRange r → InRange (advance r f)
advance_range (not_located out n p) f h k = tt
advance_range (expecting out n b) f h k =
    cond_both (ltb f.item.number n) _ _ InRange (λ _. k)
    (λ _. cond_both (eqb f.item.number n) _ _ InRange (λ e. (omega arith, omega (arith, eqb-true f.item.number n e)))
    (λ _. cond_both (eqb f.item.number (suc n)) _ _ InRange (λ _. k) (λ _. tt)))

ranges : (r : ReplayState) (fs : List CopyAt) → ((f : CopyAt) → In f fs → f.item.number < number_limit) → InRange r → InRange (fold advance r fs)
ranges r [] h k = k
ranges r (f ∷ fs) h k = ranges (advance r f) fs (λ g i. h g (there i)) (advance_range r f (h f here) k)

pub replay_range : (c : Tape) → OfCartridge c → InRange (tape_replay c).state
replay_range c k =
    subst InRange (sym (replays_sound_copies c))
    (ranges rewound (sound_copies c) (λ f i. omega (arith, ((lists_sound_copies c k).each f i).proper.most)) (omega arith, omega arith))

pub strictly : (a b : ℕ) → a ≤ b → (a ≡ b → ⊥) → a < b
strictly a b h n = grind arith

abbrev pub Sure : ℕ → Tape → DeckState → Type 0
Sure room c deck_idle = Unit {0}
Sure room c (deck_recording s p) = NeverShort room c s p

head_least : (c : Tape) (t : ℕ) → copy_head Normal ≤ copy_head (first_preamble c t)
head_least c t = cond_both (eqb (length (track c t)) 0) Long Elongated (λ p. copy_head Normal ≤ copy_head p) (λ _. omega arith) (λ _. omega arith)

-- by the tape c before a call and m after it, which is known to be valid then
module _ (room : ℕ) (c m : Tape) where
  abbrev Keeps : CallOutcome → Type 0
  Keeps o = Grown c o.runs m → Valid room m o.state → Sure room m o.state

  keeps_declines : (k : ℕ) (s : DeckState) → Sure room c s → Keeps (declines k s)
  keeps_declines k s h g v = subst (λ (x : Tape). Sure room x s) (sym g) h

  -- one item more is taken, and its copy stands at the end
  taken : (s : RecordingNumbers) (p : RecordingPhase) (M : Numbered) → NeverShort room c s p → eqb s.next number_limit ≡ false → Valid room m (deck_recording (record { first = s.first; next = suc s.next }) (item_pending M.content)) → copy_head Normal + copy_tail ≤ end_place m → NeverShort room m (record { first = s.first; next = suc s.next }) (item_pending M.content)
  taken s p M h e v w =
      let ne = eqb-false s.next number_limit e in
      let le : s.next < number_limit = strictly s.next number_limit h.most ne in
      record { enough = v.0; least = h.least; in_order = omega (arith, h.in_order); most = le; phase = (omega (arith, h.in_order), v.1, w) }

  -- the pending item failed
  failed : (s : RecordingNumbers) (x : _) → NeverShort room c s (item_pending x) → NeverShort room m s (item_failed (s.next - 1))
  failed s x h = record { enough = h.enough; least = h.least; in_order = h.in_order; most = h.most; phase = (omega (arith, h.phase.0), omega (arith, h.phase.0)) }

  keeps_starts : (s : RecordingNumbers) (t : ℕ) (M : Numbered) → Full M.content → NeverShort room c s nothing_pending → eqb s.next number_limit ≡ false → EmptyPast c t → Keeps (starts room c s t M)
  keeps_starts s t M f h e past (n, l, g) v =
      let l : Longer (copy_run (first_preamble c t) (first_on room c t M)) c m = subst (λ (x : Tape). Longer (copy_run (first_preamble c t) (first_on room c t M)) c x) (sym g) l in
      let w = start_grew room c m t M f l past in
      let ends : end_place m ≡ length (track c t) + copy_head (first_preamble c t) + copy_tail = end_place-is m ∙ (ap (λ (u : ℕ). length (track m u)) w.1 ∙ w.0) in
      taken s nothing_pending M h e v (omega (arith, head_least c t))

  keeps_follows : (s : RecordingNumbers) (x : _) (M : Numbered) (k : ℕ) → Full x → Full M.content → NeverShort room c s (item_pending x) → eqb s.next number_limit ≡ false → Keeps (follows room c s (pending_copy c s x) M k)
  keeps_follows s x M k f1 f2 h e =
      cond_both (ltb k most_writings) _ _ Keeps
      (λ _ g v.
      let w = pairs_grew room c m (pending_copy c s x) M k f1 f2 g in
      let ends : end_place m ≡ end_place c + suc (min k more_writings + min k more_writings) * normal_copy = end_place-is m ∙ (ap (λ (u : ℕ). length (track m u)) w.1 ∙ w.0) in
      taken s (item_pending x) M h e v (omega arith))
      (λ _ g v. failed s x h)

  keeps_changes : (s : RecordingNumbers) (x : _) (M : Numbered) (k : ℕ) → Full x → Full M.content → NeverShort room c s (item_pending x) → eqb s.next number_limit ≡ false → Keeps (changes_track room c s (pending_copy c s x) M k)
  keeps_changes s x M k f1 f2 h e =
      cond_both (ltb k most_writings) _ _ Keeps
      (λ _ g v.
      let w = change_grew room c m (pending_copy c s x) M k f1 f2 g in
      let ends : end_place m ≡ copy_head Long + copy_tail = end_place-is m ∙ (ap (λ (u : ℕ). length (track m u)) w.2 ∙ w.1) in
      taken s (item_pending x) M h e v (omega arith))
      (λ _ g v. failed s x h)

  keeps_item : (good : CopyAt → Bool) (s : RecordingNumbers) (p : RecordingPhase) (M : Numbered) → Full M.content → Valid room c (deck_recording s p) → NeverShort room c s p → Keeps (takes_item room c good s p M)
  keeps_item good s (item_failed n) M f v h = λ g _. subst (λ (x : Tape). NeverShort room x s (item_failed n)) (sym g) h
  keeps_item good s nothing_pending M f v h =
      cond_both (eqb s.next number_limit) _ _ Keeps (λ _. keeps_declines 13 (deck_recording s nothing_pending) h)
      (λ e. cond_both (short_of_room room c) _ _ Keeps
      (λ _. cond_both (media_ends room c) _ _ Keeps (λ _. keeps_declines 12 (deck_recording s nothing_pending) h) (λ _. keeps_starts s (suc (end_track c)) M f h e (λ u l. past-end_track c u (omega arith))))
      (λ _. keeps_starts s (end_track c) M f h e (past-end_track c)))
  keeps_item good s (item_pending x) M f v h =
      cond_both (eqb s.next number_limit) _ _ Keeps (λ _. keeps_declines 13 (deck_recording s (item_pending x)) h)
      (λ e. cond_both (short_of_room room c) _ _ Keeps
      (λ _. cond_both (media_ends room c) _ _ Keeps (λ _. keeps_declines 12 (deck_recording s (item_pending x)) h)
      (λ _. cond_both (short_to_finish room c) _ _ Keeps (λ _ g _. failed s x h) (λ _. keeps_changes s x M (alone_failures room c good (pending_copy c s x)) v.3 f h e)))
      (λ _. keeps_follows s x M (pair_failures room c good (pending_copy c s x)) v.3 f h e))

  keeps_begins : (r : ReplayState) (u : Option UnsoundOpening) → InRange r → item_room ≤ room → Keeps (begins r u)
  keeps_begins (expecting out n b) u k big g v = record { enough = big; least = k.0; in_order = omega arith; most = k.1; phase = refl }
  keeps_begins (not_located out n p) u k big g v = tt

  pub keeps : (r : ReplayProgress) (good : CopyAt → Bool) (s : DeckState) (call : DeckCall) → InRange r.state → Valid room c s → Sure room c s → Keeps (call_does r good room c s call)
  keeps r good deck_idle begin_call k v h = cond_both (ltb room item_room) _ _ Keeps (λ _. keeps_declines 11 deck_idle tt) (λ e. keeps_begins r.state r.unsound k (ltb-false room item_room e))
  keeps r good (deck_recording s p) begin_call k v h = keeps_declines 16 (deck_recording s p) h
  keeps r good deck_idle (write_call bs) k v h = keeps_declines 15 deck_idle tt
  keeps r good (deck_recording s p) (write_call bs) k v h =
      cond_both (eqb (length bs) 512) _ _ Keeps (λ e. keeps_item good s p (item_of s.next (Block bs)) (eqb-true (length bs) 512 e) v h) (λ _. keeps_declines 1 (deck_recording s p) h)
  keeps r good deck_idle mark_call k v h = keeps_declines 15 deck_idle tt
  keeps r good (deck_recording s p) mark_call k v h = keeps_item good s p (item_of s.next Mark) tt v h
  keeps r good deck_idle stop_call k v h = keeps_declines 15 deck_idle tt
  keeps r good (deck_recording s nothing_pending) stop_call k v h = λ g _. tt
  keeps r good (deck_recording s (item_failed n)) stop_call k v h = λ g _. tt
  keeps r good (deck_recording s (item_pending x)) stop_call k v h = cond_both (short_to_finish room c) _ _ Keeps (λ _ g _. tt) (λ _ g _. tt)

pub made_sure : (room : ℕ) (c : Tape) (s : DeckState) (ds : List AnsweredCall) (log : List CopyAt) (e : Tape) (t : DeckState) → Made room c s ds log e t → OfCartridge e → Valid room c s → Sure room c s → Sure room e t
made_sure room c s ds log e t no_call k v h = h
made_sure room c s ds log e t (call_more {ds = rest} {log = later} call m g then) k v h =
    let w = (step_fine room c m s call v g).valid in
    let cm = of_cartridge_before m e (made_extends room m (outcome room c m s call).state rest later e t then) k in
    let cc = of_cartridge_before c m (grown_extends (outcome room c m s call).runs c m g) cm in
    made_sure room m (outcome room c m s call).state rest later e t then k w (keeps room c m (tape_replay c) (stands m) s call (replay_range c cc) v h g w)

pub nothing_runs-short : NothingRunsShort
nothing_runs-short room b ds log c s p d k = made_sure room b deck_idle ds log c (deck_recording s p) d k tt tt
