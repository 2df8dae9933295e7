-- The next item of a recording: which way it takes.
use Rattle.std.proofs.Common.{◌≡◌, ℕ, suc, ◌+◌, ◌-◌, ◌<◌, ◌≤◌, Bool, true, false, cond, eqb, ltb, leb, List, [], ◌∷◌, ◌++◌, length, IfErr, Some, None, Ok, Err, Result, sym, refl, ap, ◌∙◌, subst, append-nil, arith}
use Rattle.std.proofs.lemmas.Bool.{true≢false, eq-eqb, cond-true, cond-false, lt-ltb, le-ltb, ltb-false, leb-false}
use Rattle.qic24.specs.Copy.{Numbered}
use Rattle.tape.specs.Tape.{Tape, track, Run, Sends}
use Rattle.replay.specs.Copies.{CopyAt}
use Rattle.replay.specs.Scan.{stands}
use Rattle.deck.specs.Refusals.{refusal_number}
use Rattle.deck.specs.declared.refusal.Refusal.{Refusal}
use Rattle.deck.specs.CallContract.{Had}
use Rattle.deck.specs.Calls.{DeckAnswer, kept_total, unwritable, item_of}
use Rattle.deck.specs.Deck.{RecordingNumbers, item_failed, DeckState, deck_idle, deck_recording, CallOutcome, declines, copy_run, first_preamble, end_track, end_place, accepts, fails, finish_puts, finish_runs, first_on, short_of_room, short_to_finish, media_ends, alone_failures, takes_item, write_does, closes, finishes, stop_does}
use Rattle.deck.specs.Heads.{EndsWith}
use Rattle.deck.specs.LastCopies.{last_copy, came_out}
use Rattle.deck.specs.declared.failed.FailedItem.{FailedItem}
use Rattle.deck.specs.Measures.{item_room, most_writings, number_limit}
use Rattle.deck.specs.Phases.{pending_content, phase_of, unchecked_item}
use Rattle.qic24.specs.declared.item.Content.TheVariants.{Block}
use Rattle.deck.specs.Taking.{takes_content, stays_on, moves_on, written_answer, written_state}
use Rattle.deck.specs.declared.phase.Phase.{Phase}
use Rattle.deck.specs.declared.phase.Phase.TheVariants.{Clear, Unchecked, Failed}
use Rattle.deck.proofs.CallRuns.{end_place-is}

-- an outcome, said otherwise
pub had_as : {S : Type 0} (takes : S → Run → S → Type 0) (before after : S) (x y : DeckState) (a b : DeckAnswer) (o p : CallOutcome) → y ≡ x → b ≡ a → p ≡ o → Had takes before after x a o → Had takes before after y b p
had_as takes before after x y a b o p d e f h = record {
  answers = e ∙ (h.answers ∙ ap (λ (z : CallOutcome). z.answer) (sym f));
  sends = subst (λ (z : CallOutcome). Sends takes before z.runs after) (sym f) h.sends;
  leaves = d ∙ (h.leaves ∙ ap (λ (z : CallOutcome). z.state) (sym f));
}

-- the outcome of a step, once the deck has settled by it; `way` is the step's definition
pub settled : {S : Type 0} (takes : S → Run → S → Type 0) (cells : S → Tape) (m : S) (s : RecordingNumbers) (way : (CopyAt → Bool) → Numbered → CallOutcome)
    (after last : S) (b r : Result (Unit {0}) FailedItem) (N M : Numbered) (x : DeckState) (a : DeckAnswer) (o : CallOutcome) → after ≡ last → b ≡ r → N ≡ M →
    x ≡ written_state s M b → a ≡ written_answer s b → o ≡ way (stands (cells after)) M →
    Had takes m last (written_state s N r) (written_answer s r) (way (stands (cells last)) N) → Had takes m after x a o
settled takes cells m s way after last b r N M x a o p q e f g h k =
    let one = subst (λ z. Had takes m z (written_state s N r) (written_answer s r) (way (stands (cells z)) N)) (sym p) k in
    let two = subst (λ (z : Result (Unit {0}) FailedItem). Had takes m after (written_state s N z) (written_answer s z) (way (stands (cells after)) N)) (sym q) one in
    let three = subst (λ (z : Numbered). Had takes m after (written_state s z b) (written_answer s b) (way (stands (cells after)) z)) e two in
    had_as takes m after (written_state s M b) x (written_answer s b) a (way (stands (cells after)) M) o f g h three

-- the outcome of a stop, at the medium that is left
pub closed_at : {S : Type 0} (takes : S → Run → S → Type 0) (cells : S → Tape) (m : S) (way : (CopyAt → Bool) → CallOutcome) (last after : S) (a : DeckAnswer) → after ≡ last → Had takes m last deck_idle a (way (stands (cells last))) → Had takes m after deck_idle a (way (stands (cells after)))
closed_at takes cells m way last after a e h = subst (λ z. Had takes m z deck_idle a (way (stands (cells z)))) (sym e) h

-- only a 14 changed anything
pub kept_unless : (P : Type 0) (r : Result ℕ Refusal) → IfErr r (λ e. refusal_number e ≡ 14) → IfErr r (λ e. (refusal_number e ≡ 14 → ⊥) → P)
kept_unless P (Ok n) h = tt
kept_unless P (Err e) h = λ no. absurd (no h)

-- an item was made, so there was a number for it
pub item-made : (b : Bool) (x y : Numbered) → Some x ≡ cond b None (Some y) → (b ≡ false) × (x ≡ y)
item-made true x y e = let z : ◌≡◌ {A = ℕ} 0 1 = cc in absurd (omega arith)
item-made false x y e = (refl, cc)

module _ (room : ℕ) (c : Tape) (good : CopyAt → Bool) (s : RecordingNumbers) (M : Numbered) where
  pub takes_none : (p : Phase) → ((x : FailedItem) → p ≡ Failed x → ⊥) → eqb s.next number_limit ≡ false → short_of_room room c ≡ true → media_ends room c ≡ true → takes_item room c good s (phase_of p) M ≡ declines 12 (deck_recording s (phase_of p))
  takes_none Clear h a b d = cond-false (eqb s.next number_limit) _ _ a ∙ (cond-true (short_of_room room c) _ _ b ∙ cond-true (media_ends room c) _ _ d)
  takes_none (Unchecked p) h a b d = cond-false (eqb s.next number_limit) _ _ a ∙ (cond-true (short_of_room room c) _ _ b ∙ cond-true (media_ends room c) _ _ d)
  takes_none (Failed n) h a b d = absurd (h n refl)

  pub takes_moving : (p : Phase) → ((x : FailedItem) → p ≡ Failed x → ⊥) → eqb s.next number_limit ≡ false → short_of_room room c ≡ true → media_ends room c ≡ false → takes_item room c good s (phase_of p) M ≡ moves_on room c good s (unchecked_item s.next p) M
  takes_moving Clear h a b d = cond-false (eqb s.next number_limit) _ _ a ∙ (cond-true (short_of_room room c) _ _ b ∙ cond-false (media_ends room c) _ _ d)
  takes_moving (Unchecked p) h a b d = cond-false (eqb s.next number_limit) _ _ a ∙ (cond-true (short_of_room room c) _ _ b ∙ cond-false (media_ends room c) _ _ d)
  takes_moving (Failed n) h a b d = absurd (h n refl)

  pub takes_staying : (p : Phase) → ((x : FailedItem) → p ≡ Failed x → ⊥) → eqb s.next number_limit ≡ false → short_of_room room c ≡ false → takes_item room c good s (phase_of p) M ≡ stays_on room c good s (unchecked_item s.next p) M
  takes_staying Clear h a b = cond-false (eqb s.next number_limit) _ _ a ∙ cond-false (short_of_room room c) _ _ b
  takes_staying (Unchecked p) h a b = cond-false (eqb s.next number_limit) _ _ a ∙ cond-false (short_of_room room c) _ _ b
  takes_staying (Failed n) h a b = absurd (h n refl)

-- a block of 512 bytes is written as an item that holds them
pub takes-block : (room : ℕ) (c : Tape) (good : CopyAt → Bool) (s : DeckState) (bs held_bytes : List ℕ) → length bs ≡ 512 → held_bytes ≡ bs → write_does room c good s bs ≡ takes_content room c good s (Block held_bytes)
takes-block room c good deck_idle bs hs l e = refl
takes-block room c good (deck_recording s p) bs hs l e = cond-true (eqb (length bs) 512) _ _ (eq-eqb (length bs) 512 l) ∙ ap (λ (x : List ℕ). takes_item room c good s p (item_of s.next (Block x))) (sym e)

-- a cartridge with room has a track
pub some-track : (room : ℕ) (c : Tape) → (length c ≡ 0 → room ≡ 0) → 1 ≤ room → 1 ≤ length c
some-track room [] h l = absurd (omega (arith, h refl))
some-track room (x ∷ xs) h l = omega arith

-- the room that is left there
pub room-enough : (room n : ℕ) (c : Tape) (on : ℕ) → on ≡ end_track c → n ≤ room - length (track c on) → 1 ≤ n → n + end_place c ≤ room
room-enough room n c on e h l = omega (arith, end_place-is c, ap (λ (t : ℕ). length (track c t)) e)

pub room-short : (room n : ℕ) (c : Tape) (on : ℕ) → on ≡ end_track c → room - length (track c on) < n → ltb (room - end_place c) n ≡ true
room-short room n c on e h = lt-ltb (room - end_place c) n (omega (arith, end_place-is c, ap (λ (t : ℕ). length (track c t)) e))

pub room-not-short : (room n : ℕ) (c : Tape) (on : ℕ) → on ≡ end_track c → n ≤ room - length (track c on) → ltb (room - end_place c) n ≡ false
room-not-short room n c on e h = le-ltb (room - end_place c) n (omega (arith, end_place-is c, ap (λ (t : ℕ). length (track c t)) e))

-- the same of a head at the end of a cartridge
module _ {S : Type 0} (room : S → ℕ) (cells : S → Tape) (n : ℕ) (m h : S) (on : ℕ) (e : h ≡ m) (o : on ≡ end_track (cells m)) where
  pub head-enough : n ≤ room h - length (track (cells h) on) → 1 ≤ n → EndsWith n (room h) (cells h) on
  head-enough l k = let q : on ≡ end_track (cells h) = o ∙ ap (λ (z : S). end_track (cells z)) (sym e) in record { ends = q; fits = room-enough (room h) n (cells h) on q l k }

  pub head-short : room h - length (track (cells h) on) < n → ltb (room m - end_place (cells m)) n ≡ true
  head-short l = room-short (room m) n (cells m) on o (subst (λ (z : S). room z - length (track (cells z) on) < n) e l)

  pub head-not-short : n ≤ room h - length (track (cells h) on) → ltb (room m - end_place (cells m)) n ≡ false
  head-not-short l = room-not-short (room m) n (cells m) on o (subst (λ (z : S). n ≤ room z - length (track (cells z) on)) e l)

  pub head-ends : (b : Bool) → b ≡ media_ends (room h) (cells h) → media_ends (room m) (cells m) ≡ b
  head-ends b q = subst (λ (z : S). media_ends (room z) (cells z) ≡ b) e (sym q)

-- another track is there, and an empty one takes an item
pub more-tracks : (room : ℕ) (c : Tape) → media_ends room c ≡ false → (item_room ≤ room) × (suc (end_track c) < length c)
more-tracks room c e = go (ltb room item_room) refl e
  where
    go : (b : Bool) → ltb room item_room ≡ b → cond b true (leb (length c) (suc (end_track c))) ≡ false → (item_room ≤ room) × (suc (end_track c) < length c)
    go true h k = absurd (true≢false k)
    go false h k = (ltb-false room item_room h, leb-false (length c) (suc (end_track c)) k)

-- an unchecked item has the number before the next
pub unchecked_number : (n : ℕ) (p : Phase) (N : Numbered) → Some N ≡ unchecked_item n p → N.number ≡ n - 1
unchecked_number n Clear N e = let z : ◌≡◌ {A = ℕ} 0 1 = cc in absurd (omega arith)
unchecked_number n (Unchecked p) N e = let q : N ≡ item_of (n - 1) (pending_content p) = cc in ap (λ (z : Numbered). z.number) q
unchecked_number n (Failed k) N e = let z : ◌≡◌ {A = ℕ} 0 1 = cc in absurd (omega arith)

module _ {S : Type 0} (takes : S → Run → S → Type 0) (m : S) (room : ℕ) (c : Tape) (good : CopyAt → Bool) (s : RecordingNumbers) (N M : Numbered) where
  -- too little room even to finish
  pub moved_none : (x : FailedItem) → x.number ≡ s.next - 1 → short_to_finish room c ≡ true → Had takes m m (written_state s M (Err x)) (written_answer s (Err x)) (moves_on room c good s (Some N) M)
  moved_none x e h =
      had_as takes m m (deck_recording s (item_failed (s.next - 1))) (written_state s M (Err x)) (unwritable (s.next - 1)) (written_answer s (Err x)) (fails s (s.next - 1) [] []) (moves_on room c good s (Some N) M)
      (ap (λ (i : ℕ). deck_recording s (item_failed i)) e) (ap unwritable e) (cond-true (short_to_finish room c) _ _ h) (record { answers = refl; sends = refl; leaves = refl })

  -- finished, and on the next track where that went well
  pub moved : (e : S) (r : Result (Unit {0}) FailedItem) → short_to_finish room c ≡ false → r ≡ came_out N (ltb (alone_failures room c good (last_copy c N)) most_writings) →
      Sends takes m (finish_runs room c (last_copy c N) (alone_failures room c good (last_copy c N)) ++ cond (ltb (alone_failures room c good (last_copy c N)) most_writings) (copy_run (first_preamble c (suc (end_track c))) (first_on room c (suc (end_track c)) M) ∷ []) []) e →
      Had takes m e (written_state s M r) (written_answer s r) (moves_on room c good s (Some N) M)
  moved e r h a x =
      let b = ltb (alone_failures room c good (last_copy c N)) most_writings in
      had_as takes m e (written_state s M (came_out N b)) (written_state s M r) (written_answer s (came_out N b)) (written_answer s r) (way b) (moves_on room c good s (Some N) M)
      (ap (written_state s M) a) (ap (written_answer s) a) (cond-false (short_to_finish room c) _ _ h) (go b x)
    where
      runs : List Run
      runs = finish_runs room c (last_copy c N) (alone_failures room c good (last_copy c N))

      puts : List CopyAt
      puts = finish_puts room c (last_copy c N) (alone_failures room c good (last_copy c N))

      on-next : CopyAt
      on-next = first_on room c (suc (end_track c)) M

      way : Bool → CallOutcome
      way z = cond z (accepts s M (runs ++ (copy_run (first_preamble c (suc (end_track c))) on-next ∷ [])) (puts ++ (on-next ∷ []))) (fails s N.number runs puts)

      go : (z : Bool) → Sends takes m (runs ++ cond z (copy_run (first_preamble c (suc (end_track c))) on-next ∷ []) []) e → Had takes m e (written_state s M (came_out N z)) (written_answer s (came_out N z)) (way z)
      go true y = record { answers = refl; sends = y; leaves = refl }
      go false y = record { answers = refl; sends = subst (λ (rs : List Run). Sends takes m rs e) (append-nil runs) y; leaves = refl }

  -- stop with an item unchecked
  pub stop_as : (p : Phase) → Some N ≡ unchecked_item s.next p →
      stop_does room c good (deck_recording s (phase_of p)) ≡ cond (short_to_finish room c) (closes room c (unwritable (s.next - 1)) [] []) (finishes room c s (last_copy c N) (alone_failures room c good (last_copy c N)))
  stop_as Clear e = let z : ◌≡◌ {A = ℕ} 0 1 = cc in absurd (omega arith)
  stop_as (Unchecked p) e =
      let q : item_of (s.next - 1) (pending_content p) ≡ N = cc in
      ap (λ (i : Numbered). cond (short_to_finish room c) (closes room c (unwritable (s.next - 1)) [] []) (finishes room c s (last_copy c i) (alone_failures room c good (last_copy c i)))) q
  stop_as (Failed n) e = let z : ◌≡◌ {A = ℕ} 0 1 = cc in absurd (omega arith)

  pub stopped_none : (p : Phase) (n : ℕ) → Some N ≡ unchecked_item s.next p → n ≡ N.number → short_to_finish room c ≡ true → Had takes m m deck_idle (unwritable n) (stop_does room c good (deck_recording s (phase_of p)))
  stopped_none p n u i h =
      had_as takes m m deck_idle deck_idle (unwritable (s.next - 1)) (unwritable n) (closes room c (unwritable (s.next - 1)) [] []) _ refl (ap unwritable (i ∙ unchecked_number s.next p N u))
      (stop_as p u ∙ cond-true (short_to_finish room c) _ _ h) (record { answers = refl; sends = refl; leaves = refl })

  pub stopped : (e : S) (p : Phase) (a : DeckAnswer) → Some N ≡ unchecked_item s.next p → short_to_finish room c ≡ false →
      a ≡ cond (ltb (alone_failures room c good (last_copy c N)) most_writings) (kept_total (s.next - s.first)) (unwritable N.number) → Sends takes m (finish_runs room c (last_copy c N) (alone_failures room c good (last_copy c N))) e →
      Had takes m e deck_idle a (stop_does room c good (deck_recording s (phase_of p)))
  stopped e p a u h i x =
      had_as takes m e deck_idle deck_idle (cond (ltb (alone_failures room c good (last_copy c N)) most_writings) (kept_total (s.next - s.first)) (unwritable N.number)) a (finishes room c s (last_copy c N) (alone_failures room c good (last_copy c N))) _ refl i
      (stop_as p u ∙ cond-false (short_to_finish room c) _ _ h) (record { answers = refl; sends = x; leaves = refl })
