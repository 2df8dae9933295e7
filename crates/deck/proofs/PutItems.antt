-- An item that a call takes is among the copies that it puts.
use Rattle.std.proofs.Common.{◌≡◌, ℕ, suc, Bool, eqb, ltb, List, [], ◌∷◌, length, sym, refl, ap, ◌∙◌, subst, arith}
use Rattle.std.proofs.lemmas.Bool.{cond_both}
use Rattle.qic24.specs.Copy.{Numbered}
use Rattle.qic24.specs.declared.item.Content.{Content}
use Rattle.qic24.specs.declared.item.Content.TheVariants.{Block, Mark}
use Rattle.tape.specs.Tape.{Tape}
use Rattle.replay.specs.Copies.{CopyAt, placed, In, here}
use Rattle.replay.proofs.Orders.{split, in_right}
use Rattle.deck.specs.Measures.{most_writings, number_limit}
use Rattle.deck.specs.Calls.{DeckCall, begin_call, write_call, mark_call, stop_call, DeckAnswer, next_number, kept_total, refused_with, unwritable, unlocated, item_of, handed_in}
use Rattle.deck.specs.Deck.{RecordingPhase, nothing_pending, item_pending, item_failed, RecordingNumbers, deck_idle, deck_recording, CallOutcome, end_track, pending_copy, accepts, finish_puts, first_on, new_at, short_of_room, short_to_finish, media_ends, alone_failures, pair_failures, takes_item}
use Rattle.deck.specs.Sending.{PutsWhatItTakes}

-- the number in an answer
abbrev told : DeckAnswer → ℕ
told (next_number n) = n
told (kept_total n) = n
told (refused_with k) = k
told (unwritable n) = n
told (unlocated w) = 0

abbrev Put : DeckCall → CallOutcome → Type 0
Put call o = (n : ℕ) → o.answer ≡ next_number n → (i : Numbered) → In i (handed_in call n) → (f : CopyAt) × In f o.puts × (f.item ≡ i)

module _ (room : ℕ) (c : Tape) (call : DeckCall) (s : RecordingNumbers) (x : Content) (h : handed_in call s.next ≡ item_of s.next x ∷ []) where
  put_there : (ps : List CopyAt) (f : CopyAt) → In f ps → f.item ≡ item_of s.next x → Put call (accepts s (item_of s.next x) [] ps)
  put_there ps f k e n q i j =
      let at : s.next ≡ n = ap told q in
      split i (item_of s.next x) [] (subst (In i) h (subst (λ (z : ℕ). In i (handed_in call z)) (sym at) j)) (λ p. (f, k, e ∙ sym p)) (λ z. elim z [ ])

  put_item : (good : CopyAt → Bool) (p : RecordingPhase) → Put call (takes_item room c good s p (item_of s.next x))
  put_item good (item_failed n) = λ k q. absurd (let z : ◌≡◌ {A = ℕ} 0 1 = cc in omega arith)
  put_item good nothing_pending =
      cond_both (eqb s.next number_limit) _ _ (Put call) (λ _ k q. absurd (let z : ◌≡◌ {A = ℕ} 0 1 = cc in omega arith))
      (λ _. cond_both (short_of_room room c) _ _ (Put call)
      (λ _. cond_both (media_ends room c) _ _ (Put call) (λ _ k q. absurd (let z : ◌≡◌ {A = ℕ} 0 1 = cc in omega arith)) (λ _. put_there _ (first_on room c (suc (end_track c)) (item_of s.next x)) here refl))
      (λ _. put_there _ (first_on room c (end_track c) (item_of s.next x)) here refl))
  put_item good (item_pending y) =
      cond_both (eqb s.next number_limit) _ _ (Put call) (λ _ k q. absurd (let z : ◌≡◌ {A = ℕ} 0 1 = cc in omega arith))
      (λ _. cond_both (short_of_room room c) _ _ (Put call)
      (λ _. cond_both (media_ends room c) _ _ (Put call) (λ _ k q. absurd (let z : ◌≡◌ {A = ℕ} 0 1 = cc in omega arith))
      (λ _. cond_both (short_to_finish room c) _ _ (Put call) (λ _ k q. absurd (let z : ◌≡◌ {A = ℕ} 0 1 = cc in omega arith))
      (λ _. cond_both (ltb (alone_failures room c good (pending_copy c s y)) most_writings) _ _ (Put call)
      (λ _. put_there _ (first_on room c (suc (end_track c)) (item_of s.next x)) (in_right (first_on room c (suc (end_track c)) (item_of s.next x)) (finish_puts room c (pending_copy c s y) (alone_failures room c good (pending_copy c s y))) (first_on room c (suc (end_track c)) (item_of s.next x) ∷ []) here) refl)
      (λ _ k q. absurd (let z : ◌≡◌ {A = ℕ} 0 1 = cc in omega arith)))))
      (λ _. cond_both (ltb (pair_failures room c good (pending_copy c s y)) most_writings) _ _ (Put call) (λ _. put_there _ (placed (new_at room c 0) (item_of s.next x)) here refl) (λ _ k q. absurd (let z : ◌≡◌ {A = ℕ} 0 1 = cc in omega arith))))

pub puts_what_it_takes : PutsWhatItTakes
puts_what_it_takes r good room c s begin_call = λ n q i j. elim j [ ]
puts_what_it_takes r good room c deck_idle (write_call bs) = λ n q. absurd (let z : ◌≡◌ {A = ℕ} 0 1 = cc in omega arith)
puts_what_it_takes r good room c (deck_recording s p) (write_call bs) = cond_both (eqb (length bs) 512) _ _ (Put (write_call bs)) (λ _. put_item room c (write_call bs) s (Block bs) refl good p) (λ _ n q. absurd (let z : ◌≡◌ {A = ℕ} 0 1 = cc in omega arith))
puts_what_it_takes r good room c deck_idle mark_call = λ n q. absurd (let z : ◌≡◌ {A = ℕ} 0 1 = cc in omega arith)
puts_what_it_takes r good room c (deck_recording s p) mark_call = put_item room c mark_call s Mark refl good p
puts_what_it_takes r good room c s stop_call = λ n q i j. elim j [ ]
