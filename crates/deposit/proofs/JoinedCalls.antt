-- Calls that are made one after the other, joined.
use Rattle.std.proofs.Common.{◌≡◌, ℕ, ◌+◌, false, List, [], ◌∷◌, ◌++◌, length, is_some, Some, None, vec_items, Option, Result, IfSome, IfNone, sym, refl, ap, ◌∙◌, subst, append_assoc, append-nil, arith, length-append}
use Rattle.tape.specs.Tape.{Tape}
use Rattle.replay.specs.Copies.{CopyAt}
use Rattle.deck.specs.Calls.{DeckCall, stop_call, DeckAnswer, AnsweredCall}
use Rattle.deck.specs.CallContract.{CallHad}
use Rattle.deck.specs.CallsMade.{outcome, Made, no_call, call_more}
use Rattle.deck.specs.Deck.{DeckState, deck_idle, deck_recording}
use Rattle.deck.specs.Ending.{is_open}
use Rattle.deck.proofs.Media.{Medium, sent_grown, sent-room}
use Rattle.deck.specs.declared.refusal.Refusal.{Refusal}
use Rattle.operator.specs.Stopping.{kept_answer}
use Rattle.deposit.specs.OperatorCalls.{Answer, call_of, answer_of, answered_calls, closing_stop}
use Rattle.deposit.specs.Operating.{CallsMade, Operates}
use Rattle.deposit.specs.declared.call.Call.{Call}
use Rattle.deposit.specs.declared.call.Operated.{Operated}

-- two runs of calls
pub made-append : (room : ℕ) (c m e : Tape) (s t u : DeckState) (ds es : List AnsweredCall) (p q : List CopyAt) → Made room c s ds p m t → Made room m t es q e u → Made room c s (ds ++ es) (p ++ q) e u
made-append room c m e s t u ds es p q no_call k = k
made-append room c m e s t u ds es p q (call_more {ds = rest} {log = later} call n g then) k =
    subst (λ (z : List CopyAt). Made room c s (record { call = call; answer = (outcome room c n s call).answer } ∷ (rest ++ es)) z e u) (sym (append_assoc (outcome room c n s call).puts later q))
    (call_more call n g (made-append room n m e (outcome room c n s call).state t u rest es later q then k))

-- the state of a deck with no recording open
pub idle_state : (s : DeckState) → is_open s ≡ false → s ≡ deck_idle
idle_state deck_idle e = refl
idle_state (deck_recording n p) e = absurd (grind (arith, e))

module _ {S : Type 0} (C : Medium S) (before after : S) (s t : DeckState) (call : DeckCall) (answer : DeckAnswer) (h : CallHad C.room C.cells C.takes before after s t call answer) where
  -- one call, by its contract
  pub call-made : (log : List CopyAt) × Made (C.room before) (C.cells before) s (record { call = call; answer = answer } ∷ []) log (C.cells after) t
  call-made =
      let o = outcome (C.room before) (C.cells before) (C.cells after) s call in (
        o.puts ++ [],
        subst (λ (a : DeckAnswer). Made (C.room before) (C.cells before) s (record { call = call; answer = a } ∷ []) (o.puts ++ []) (C.cells after) t) (sym h.answers)
            (subst (λ (u : DeckState). Made (C.room before) (C.cells before) s (record { call = call; answer = o.answer } ∷ []) (o.puts ++ []) (C.cells after) u) (sym h.leaves)
            (call_more call (C.cells after) (sent_grown C o.runs before after h.sends) no_call)),
      )

  -- the room stays
  pub call-room : C.room after ≡ C.room before
  call-room = sent-room C (outcome (C.room before) (C.cells before) (C.cells after) s call).runs before after h.sends

-- one call more at the end
pub made_snoc : {S : Type 0} (C : Medium S) (first before after : S) (r s t : DeckState) (ds : List AnsweredCall) (call : DeckCall) (answer : DeckAnswer)
    → C.room before ≡ C.room first → (log : List CopyAt) → Made (C.room first) (C.cells first) r ds log (C.cells before) s
    → CallHad C.room C.cells C.takes before after s t call answer
    → (all : List CopyAt) × Made (C.room first) (C.cells first) r (ds ++ (record { call = call; answer = answer } ∷ [])) all (C.cells after) t
made_snoc C first before after r s t ds call answer same log d h =
    let (more, k) = call-made C before after s t call answer h in (
      log ++ more,
      made-append (C.room first) (C.cells first) (C.cells before) (C.cells after) r s t ds (record { call = call; answer = answer } ∷ []) log more d
          (subst (λ (n : ℕ). Made n (C.cells before) s (record { call = call; answer = answer } ∷ []) more (C.cells after) t) same k),
    )

-- one more call and its answer
pub answered-more : (cs : List Call) (as' : List Answer) (c : Call) (a : Answer) → length as' ≡ length cs → answered_calls (cs ++ (c ∷ [])) (as' ++ (a ∷ [])) ≡ answered_calls cs as' ++ (record { call = call_of c; answer = answer_of a } ∷ [])
answered-more [] [] c a e = refl
answered-more [] (b ∷ bs) c a e = absurd (omega arith)
answered-more (x ∷ cs) [] c a e = absurd (omega arith)
answered-more (x ∷ cs) (b ∷ bs) c a e = ap (λ (z : List AnsweredCall). record { call = call_of x; answer = answer_of b } ∷ z) (answered-more cs bs c a (omega arith))

-- nothing is called yet
pub none_made : (room : ℕ) (c : Tape) (s : DeckState) (answers : List Answer) → is_open s ≡ false → answers ≡ [] → CallsMade room c [] answers c s
none_made room c s answers e n =
    subst (λ (z : List Answer). CallsMade room c [] z c s) (sym n)
    (subst (λ (u : DeckState). CallsMade room c [] [] c u) (sym (idle_state s e)) (record { each = refl; log = []; made = no_call }))

-- one call more
pub more_made : {S : Type 0} (C : Medium S) (first before after : S) (s t : DeckState) (cs : List Call) (as' : List Answer) (c : Call) (a : Answer)
    → C.room before ≡ C.room first → CallsMade (C.room first) (C.cells first) cs as' (C.cells before) s
    → CallHad C.room C.cells C.takes before after s t (call_of c) (answer_of a)
    → CallsMade (C.room first) (C.cells first) (cs ++ (c ∷ [])) (as' ++ (a ∷ [])) (C.cells after) t
more_made C first before after s t cs as' c a same w h =
    let (log, d) = made_snoc C first before after deck_idle s t (answered_calls cs as') (call_of c) (answer_of a) same w.log w.made h in record {
      each = length-append as' (a ∷ []) ∙ (ap (λ (n : ℕ). n + 1) w.each ∙ sym (length-append cs (c ∷ [])));
      log = log;
      made = subst (λ (z : List AnsweredCall). Made (C.room first) (C.cells first) deck_idle z log (C.cells after) t) (sym (answered-more cs as' c a w.each)) d;
    }

-- the calls are all made: a recording that they left open was stopped, and where they left none, nothing was done
pub operated : {S : Type 0} (C : Medium S) (first last end : S) (calls : List Call) (o : Operated) (s : DeckState)
    → C.room last ≡ C.room first → CallsMade (C.room first) (C.cells first) calls (vec_items o.answers) (C.cells last) s → (closing : Option (Result ℕ Refusal)) → o.closing ≡ closing → is_some closing ≡ is_open s
    → IfSome closing (λ kept. CallHad C.room C.cells C.takes last end s deck_idle stop_call (kept_answer kept)) → IfNone closing (end ≡ last)
    → Operates (C.room first) (C.cells first) calls o (C.cells end) × (C.room end ≡ C.room first)
operated {S} C first last end calls o s same w None e i had stays = (
  subst (λ (z : S). Operates (C.room first) (C.cells first) calls o (C.cells z)) (sym stays) (record {
    last = C.cells last;
    left = s;
    calls_made = w;
    left_open = ap is_some e ∙ i;
    log = w.log;
    made =
        subst (λ (z : Option (Result ℕ Refusal)). Made (C.room first) (C.cells first) deck_idle (answered_calls calls (vec_items o.answers) ++ closing_stop z) w.log (C.cells last) deck_idle) (sym e)
        (subst (λ (z : List AnsweredCall). Made (C.room first) (C.cells first) deck_idle z w.log (C.cells last) deck_idle) (sym (append-nil (answered_calls calls (vec_items o.answers))))
        (subst (λ (u : DeckState). Made (C.room first) (C.cells first) deck_idle (answered_calls calls (vec_items o.answers)) w.log (C.cells last) u) (idle_state s (sym i)) w.made));
  }),
  ap C.room stays ∙ same,
)
operated {S} C first last end calls o s same w (Some a) e i had stays =
    let (log, d) = made_snoc C first last end deck_idle s deck_idle (answered_calls calls (vec_items o.answers)) stop_call (kept_answer a) same w.log w.made had in (
      record {
        last = C.cells last;
        left = s;
        calls_made = w;
        left_open = ap is_some e ∙ i;
        log = log;
        made = subst (λ (z : Option (Result ℕ Refusal)). Made (C.room first) (C.cells first) deck_idle (answered_calls calls (vec_items o.answers) ++ closing_stop z) log (C.cells end) deck_idle) (sym e) d;
      },
      call-room C last end s deck_idle stop_call (kept_answer a) had ∙ same,
    )
