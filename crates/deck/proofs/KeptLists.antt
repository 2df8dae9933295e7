-- The replay of what a list of calls put on the tape is its kept list.
use Rattle.std.proofs.Common.{◌≡◌, ℕ, zero, suc, ◌+◌, ◌-◌, ◌<◌, min, Bool, true, false, List, [], ◌∷◌, ◌++◌, length, sym, refl, ap, ◌∙◌, subst, inl, inr, append_assoc, append-nil, add-zero, suc-add, zero-add, arith, length-append}
use Rattle.qic24.specs.Cells.{fold}
use Rattle.qic24.specs.Copy.{Numbered}
use Rattle.deck.specs.Measures.{most_writings, more_writings}
use Rattle.replay.specs.Copies.{CopyAt, placed}
use Rattle.replay.specs.declared.place.TapePlace.{TapePlace}
use Rattle.replay.specs.Replay.{ReplayState, expecting, not_located}
use Rattle.deck.specs.Calls.{DeckCall, begin_call, write_call, mark_call, stop_call, AnsweredCall, handed_in, without, kept_after, kept_list}
use Rattle.deck.specs.Rewriting.{rewritten, rewritten_with, writing_good, failed_writings}
use Rattle.deck.proofs.ListedNumbers.{Below, below_one, below_more, taken_out, not_there}
use Rattle.deck.proofs.Steps.{Standing, at_rest, ready, awaiting, unwritten, CallStep, declined, declined_again, begun, not_begun, first-item, followed, not_followed, changed_track, not_changed, closed_clear, closed_failed, finished, not_finished, CallSteps, no_step, one_step}
use Rattle.deck.proofs.Logs.{At, AllPassed, at-passed, at-handed_out, before-first, at_first}

module _ (good : CopyAt → Bool) where
  -- bad copies of N are passed over, and so are all copies of M, while N is expected
  rewritten_with-passed : (n : ℕ) (at to : ℕ → TapePlace) (N M : Numbered) (j c : ℕ) → M.number ≡ suc n → ((k : ℕ) → k < c → good (placed (at (j + k)) N) ≡ false) → AllPassed good n (rewritten_with at to N M j c)
  rewritten_with-passed n at to N M j zero e bad = tt
  rewritten_with-passed n at to N M j (suc c) e bad = (
    inl (subst (λ (k : ℕ). good (placed (at k) N) ≡ false) (add-zero j) (bad 0 (omega arith))),
    (inr (inr e), rewritten_with-passed n at to N M (suc j) c e (λ k h. subst (λ (i : ℕ). good (placed (at i) N) ≡ false) (omega arith) (bad (suc k) (omega arith)))),
  )

  rewritten-passed : (n : ℕ) (at : ℕ → TapePlace) (N : Numbered) (j c : ℕ) → ((k : ℕ) → k < c → good (placed (at (j + k)) N) ≡ false) → AllPassed good n (rewritten at N j c)
  rewritten-passed n at N j zero bad = tt
  rewritten-passed n at N j (suc c) bad = (
    inl (subst (λ (k : ℕ). good (placed (at k) N) ≡ false) (add-zero j) (bad 0 (omega arith))),
    rewritten-passed n at N (suc j) c (λ k h. subst (λ (i : ℕ). good (placed (at i) N) ≡ false) (omega arith) (bad (suc k) (omega arith))),
  )

  -- once N is handed out its further copies are passed over
  rewritten_smaller : (n : ℕ) (at : ℕ → TapePlace) (N : Numbered) (j c : ℕ) → N.number < n → AllPassed good n (rewritten at N j c)
  rewritten_smaller n at N j zero h = tt
  rewritten_smaller n at N j (suc c) h = (inr (inl h), rewritten_smaller n at N (suc j) c h)

  rewritten_with-push : (at to : ℕ → TapePlace) (N M : Numbered) (j c : ℕ) → rewritten_with at to N M j (suc c) ≡ (rewritten_with at to N M j c ++ (placed (at (j + c)) N ∷ [])) ++ (placed (to (j + c)) M ∷ [])
  rewritten_with-push at to N M j zero = ap (λ (k : ℕ). placed (at k) N ∷ (placed (to k) M ∷ [])) (sym (add-zero j))
  rewritten_with-push at to N M j (suc c) = ap (λ (r : List CopyAt). placed (at j) N ∷ (placed (to j) M ∷ r)) (rewritten_with-push at to N M (suc j) c ∙ ap (λ (k : ℕ). (rewritten_with at to N M (suc j) c ++ (placed (at k) N ∷ [])) ++ (placed (to k) M ∷ [])) (omega arith))

  rewritten-append : (at : ℕ → TapePlace) (N : Numbered) (j a b : ℕ) → rewritten at N j (a + b) ≡ rewritten at N j a ++ rewritten at N (j + a) b
  rewritten-append at N j zero b = rw (zero-add, add-zero)
  rewritten-append at N j (suc a) b =
      ap (rewritten at N j) (suc-add a b) ∙
      ap (λ (r : List CopyAt). placed (at j) N ∷ r) (rewritten-append at N (suc j) a b ∙ ap (λ (k : ℕ). rewritten at N (suc j) a ++ rewritten at N k b) (omega arith))

  -- the copies before the first good one are bad, and it is good
  failed : (N : CopyAt) (at : ℕ → TapePlace) (m : ℕ) → failed_writings good N at ≡ m → (k : ℕ) → k < m → writing_good good N at k ≡ false
  unfolding failed_writings
  failed N at m e k h = before-first good most_writings (writing_good good N at) k (subst (λ (x : ℕ). k < x) (sym e) h)

  came : (N : CopyAt) (at : ℕ → TapePlace) (m : ℕ) → failed_writings good N at ≡ m → m < most_writings → writing_good good N at m ≡ true
  unfolding failed_writings
  came N at m e h = subst (λ (x : ℕ). writing_good good N at x ≡ true) e (at_first good most_writings (writing_good good N at) (subst (λ (x : ℕ). x < most_writings) (sym e) h))

  length_one : (out : List Numbered) (i : Numbered) → length (out ++ (i ∷ [])) ≡ suc (length out)
  length_one out i = omega (arith, length-append out (i ∷ []))

  -- the copies of N after the first
  after_first : (N : CopyAt) (at : ℕ → TapePlace) (m : ℕ) → failed_writings good N at ≡ m → (c : ℕ) → c < m → (k : ℕ) → k < c → good (placed (at (1 + k)) N.item) ≡ false
  after_first N at m t c l k h = subst (λ (i : ℕ). good (placed (at i) N.item) ≡ false) (omega arith) (failed N at m t (suc k) (omega arith))

  -- N stands at the end of the log and again m times at the places from 1 on, good only at the last: it is handed out there
  handed_out : (log : List CopyAt) (out : List Numbered) (N : CopyAt) (at : ℕ → TapePlace) (m : ℕ) → At good log out → N.item.number ≡ suc (length out) → failed_writings good N at ≡ m → m < most_writings → At good ((log ++ (N ∷ [])) ++ rewritten at N.item 1 m) (out ++ (N.item ∷ []))
  handed_out log out N at zero a e t h = rw append-nil (at-handed_out good log out N a (came N at 0 t h) e)
  handed_out log out N at (suc k) a e t h =
      let bad : AllPassed good (suc (length out)) (N ∷ rewritten at N.item 1 k) = (inl (failed N at (suc k) t 0 (omega arith)), rewritten-passed (suc (length out)) at N.item 1 k (after_first N at (suc k) t k (omega arith))) in
      let b : At good (log ++ (N ∷ rewritten at N.item 1 k)) out = at-passed good log (N ∷ rewritten at N.item 1 k) out a bad in
      let g : At good ((log ++ (N ∷ rewritten at N.item 1 k)) ++ (placed (at (suc k)) N.item ∷ [])) (out ++ (N.item ∷ [])) = at-handed_out good (log ++ (N ∷ rewritten at N.item 1 k)) out (placed (at (suc k)) N.item) b (came N at (suc k) t h) e in
      subst (λ (l : List CopyAt). At good l (out ++ (N.item ∷ []))) (shape k) g
    where
      shape : (k : ℕ) → (log ++ (N ∷ rewritten at N.item 1 k)) ++ (placed (at (suc k)) N.item ∷ []) ≡ (log ++ (N ∷ [])) ++ rewritten at N.item 1 (suc k)
      shape k =
          let one : suc k ≡ k + 1 = omega arith in
          let next : 1 + k ≡ suc k = omega arith in
          append_assoc log (N ∷ rewritten at N.item 1 k) (placed (at (suc k)) N.item ∷ []) ∙
          (ap (λ (r : List CopyAt). log ++ (N ∷ r)) (sym (ap (rewritten at N.item 1) one ∙ (rewritten-append at N.item 1 k 1 ∙ ap (λ (i : ℕ). rewritten at N.item 1 k ++ (placed (at i) N.item ∷ [])) next))) ∙
          sym (append_assoc log (N ∷ []) (rewritten at N.item 1 (suc k))))

  -- N, pending at the end of a log, is finished
  finish : (log : List CopyAt) (out : List Numbered) (N : CopyAt) (at : ℕ → TapePlace) (m : ℕ) → At good log out → N.item.number ≡ suc (length out) → failed_writings good N at ≡ m → m < most_writings → At good ((log ++ (N ∷ [])) ++ rewritten at N.item 1 (min (suc m) more_writings)) (out ++ (N.item ∷ []))
  finish log out N at m a e t h =
      let r : ℕ = min (suc m) more_writings - m in
      let split : min (suc m) more_writings ≡ m + r = omega arith in
      let g = handed_out log out N at m a e t h in
      let more : AllPassed good (suc (length (out ++ (N.item ∷ [])))) (rewritten at N.item (1 + m) r) = rewritten_smaller (suc (length (out ++ (N.item ∷ [])))) at N.item (1 + m) r (omega (arith, length_one out N.item)) in
      subst (λ (l : List CopyAt). At good l (out ++ (N.item ∷ [])))
      (append_assoc (log ++ (N ∷ [])) (rewritten at N.item 1 m) (rewritten at N.item (1 + m) r) ∙ ap (λ (x : List CopyAt). (log ++ (N ∷ [])) ++ x) (sym (ap (rewritten at N.item 1) split ∙ rewritten-append at N.item 1 m r)))
      (at-passed good ((log ++ (N ∷ [])) ++ rewritten at N.item 1 m) (rewritten at N.item (1 + m) r) (out ++ (N.item ∷ [])) g more)

  -- all sixteen copies of N are bad: nothing of it is handed out
  not_finish : (log : List CopyAt) (out : List Numbered) (N : CopyAt) (at : ℕ → TapePlace) → At good log out → failed_writings good N at ≡ most_writings → At good ((log ++ (N ∷ [])) ++ rewritten at N.item 1 more_writings) out
  not_finish log out N at a t =
      rw append_assoc (at-passed good log (N ∷ rewritten at N.item 1 more_writings) out a (inl (failed N at most_writings t 0 (omega arith)), rewritten-passed (suc (length out)) at N.item 1 more_writings (after_first N at most_writings t more_writings (omega arith))))

  -- M follows N: once N came out good, all but M's last copy is read as the items before and N
  follow : (log : List CopyAt) (out : List Numbered) (N : CopyAt) (M : Numbered) (at to : ℕ → TapePlace) (m : ℕ) → At good log out → N.item.number ≡ suc (length out) → M.number ≡ suc (suc (length out)) → failed_writings good N at ≡ m → m < most_writings → (before : List CopyAt) × ((log ++ (N ∷ [])) ++ (placed (to 0) M ∷ rewritten_with at to N.item M 1 m) ≡ before ++ (placed (to m) M ∷ [])) × At good before (out ++ (N.item ∷ []))
  follow log out N M at to zero a e f t h = (log ++ (N ∷ []), refl, at-handed_out good log out N a (came N at 0 t h) e)
  follow log out N M at to (suc k) a e f t h =
      let front : List CopyAt = N ∷ (placed (to 0) M ∷ rewritten_with at to N.item M 1 k) in
      let bad : AllPassed good (suc (length out)) front = (inl (failed N at (suc k) t 0 (omega arith)), (inr (inr f), rewritten_with-passed (suc (length out)) at to N.item M 1 k f (after_first N at (suc k) t k (omega arith)))) in
      let b : At good (log ++ front) out = at-passed good log front out a bad in
      let g : At good ((log ++ front) ++ (placed (at (suc k)) N.item ∷ [])) (out ++ (N.item ∷ [])) = at-handed_out good (log ++ front) out (placed (at (suc k)) N.item) b (came N at (suc k) t h) e in
      ((log ++ front) ++ (placed (at (suc k)) N.item ∷ []), shape, g)
    where
      shape : (log ++ (N ∷ [])) ++ (placed (to 0) M ∷ rewritten_with at to N.item M 1 (suc k)) ≡ ((log ++ (N ∷ (placed (to 0) M ∷ rewritten_with at to N.item M 1 k))) ++ (placed (at (suc k)) N.item ∷ [])) ++ (placed (to (suc k)) M ∷ [])
      shape =
          let next : 1 + k ≡ suc k = omega arith in
          let snoc : rewritten_with at to N.item M 1 (suc k) ≡ (rewritten_with at to N.item M 1 k ++ (placed (at (suc k)) N.item ∷ [])) ++ (placed (to (suc k)) M ∷ []) = rewritten_with-push at to N.item M 1 k ∙ ap (λ (i : ℕ). (rewritten_with at to N.item M 1 k ++ (placed (at i) N.item ∷ [])) ++ (placed (to i) M ∷ [])) next in
          ap (λ (r : List CopyAt). (log ++ (N ∷ [])) ++ (placed (to 0) M ∷ r)) snoc ∙ simp append_assoc

  -- N never came out good: M's copies are passed over, and nothing is handed out
  not_follow : (log : List CopyAt) (out : List Numbered) (N : CopyAt) (M : Numbered) (at to : ℕ → TapePlace) → At good log out → M.number ≡ suc (suc (length out)) → failed_writings good N at ≡ most_writings → At good ((log ++ (N ∷ [])) ++ (placed (to 0) M ∷ rewritten_with at to N.item M 1 more_writings)) out
  not_follow log out N M at to a f t =
      rw append_assoc (at-passed good log (N ∷ (placed (to 0) M ∷ rewritten_with at to N.item M 1 more_writings)) out a
      (inl (failed N at most_writings t 0 (omega arith)), (inr (inr f), rewritten_with-passed (suc (length out)) at to N.item M 1 more_writings f (after_first N at most_writings t more_writings (omega arith)))))

  -- what holds between two calls: `old` was kept before this operator came, `own` by this operator
  abbrev Holds : List Numbered → List CopyAt → List Numbered → Standing → Type 0
  Holds old log own at_rest = At good log (old ++ own) × Below (suc (length (old ++ own))) own
  Holds old log own (ready n) = At good log (old ++ own) × Below (suc (length (old ++ own))) own × (n ≡ suc (length (old ++ own)))
  Holds old log own (awaiting n N) = (before : List CopyAt) × (mine : List Numbered) × (log ≡ before ++ (N ∷ [])) × (own ≡ mine ++ (N.item ∷ [])) × At good before (old ++ mine) × Below (suc (length (old ++ mine))) mine × (N.item.number ≡ suc (length (old ++ mine))) × (n ≡ suc N.item.number)
  Holds old log own (unwritten n) = At good log (old ++ own) × Below (suc (length (old ++ own))) own × (n ≡ suc (length (old ++ own)))

  -- the number of the item that was handed in
  handed-number : (call : DeckCall) (n : ℕ) (M : Numbered) → handed_in call n ≡ M ∷ [] → M.number ≡ n
  handed-number begin_call n M e = let z : ◌≡◌ {A = ℕ} 0 1 = ap length e in omega arith
  handed-number (write_call bs) n M e = sym (ap head e)
    where
      head : List Numbered → ℕ
      head [] = 0
      head (i ∷ is) = i.number
  handed-number mark_call n M e = sym (ap head e)
    where
      head : List Numbered → ℕ
      head [] = 0
      head (i ∷ is) = i.number
  handed-number stop_call n M e = let z : ◌≡◌ {A = ℕ} 0 1 = ap length e in omega arith

  nothing_put : (old : List Numbered) (log : List CopyAt) (own : List Numbered) (s : Standing) → Holds old log own s → Holds old (log ++ []) own s
  nothing_put old log own s h = subst (λ (l : List CopyAt). Holds old l own s) (sym (append-nil log)) h

  -- one more item kept
  one_more : (old own : List Numbered) (i : Numbered) → i.number ≡ suc (length (old ++ own)) → Below (suc (length (old ++ own))) own → Below (suc (length (old ++ (own ++ (i ∷ []))))) (own ++ (i ∷ []))
  one_more old own i e b =
      let l : length (old ++ (own ++ (i ∷ []))) ≡ suc (length (old ++ own)) = ap length (sym (append_assoc old own (i ∷ []))) ∙ length_one (old ++ own) i in
      below_one (suc (length (old ++ (own ++ (i ∷ []))))) own i (below_more (suc (length (old ++ own))) (suc (length (old ++ (own ++ (i ∷ []))))) own (omega arith) b) (omega arith)

  -- the number that a replay expects
  abbrev expected : ReplayState → ℕ
  expected (expecting out n b) = n
  expected (not_located out n p) = n

  -- what is known while N is held
  pub record Held (old : List Numbered) (log : List CopyAt) (own : List Numbered) (n : ℕ) (N : CopyAt) : Type 0 where
    pub before : List CopyAt
    pub mine : List Numbered
    pub log_is : log ≡ before ++ (N ∷ [])
    pub own_is : own ≡ mine ++ (N.item ∷ [])
    pub at : At good before (old ++ mine)
    pub below : Below (suc (length (old ++ mine))) mine
    pub here : N.item.number ≡ suc (length (old ++ mine))
    pub next : n ≡ suc N.item.number

  held : (old : List Numbered) (log : List CopyAt) (own : List Numbered) (n : ℕ) (N : CopyAt) → Holds old log own (awaiting n N) → Held old log own n N
  held old log own n N h = record { before = h.0; mine = h.1; log_is = h.2; own_is = h.3; at = h.4; below = h.5; here = h.6; next = h.7 }

  module _ (old : List Numbered) (log : List CopyAt) (own : List Numbered) (n : ℕ) (N : CopyAt) (h : Held old log own n N) where
    all-is : (old ++ h.mine) ++ (N.item ∷ []) ≡ old ++ own
    all-is = append_assoc old h.mine (N.item ∷ []) ∙ ap (λ (o : List Numbered). old ++ o) (sym h.own_is)

    all-length : length (old ++ own) ≡ suc (length (old ++ h.mine))
    all-length = ap length (sym all-is) ∙ length_one (old ++ h.mine) N.item

    own_below : Below (suc (length (old ++ own))) own
    own_below = subst (λ (o : List Numbered). Below (suc (length (old ++ o))) o) (sym h.own_is) (one_more old h.mine N.item h.here h.below)

    -- N is taken out of the operator's list
    out_of : without N.item.number own ≡ h.mine
    out_of = ap (without N.item.number) h.own_is ∙ taken_out h.mine N.item (subst (λ (x : ℕ). Below x h.mine) (sym h.here) h.below)

    whole : (puts : List CopyAt) → (h.before ++ (N ∷ [])) ++ puts ≡ log ++ puts
    whole puts = ap (λ (l : List CopyAt). l ++ puts) (sym h.log_is)

    next_pending : (call : DeckCall) (M : Numbered) (before : List CopyAt) (puts : List CopyAt) (p : TapePlace) → handed_in call n ≡ M ∷ [] → log ++ puts ≡ before ++ (placed p M ∷ []) → At good before ((old ++ h.mine) ++ (N.item ∷ [])) → Holds old (log ++ puts) (own ++ handed_in call n) (awaiting (suc n) (placed p M))
    next_pending call M before puts p k shape a =
        let is = handed-number call n M k in
        (before, own, shape, ap (λ (r : List Numbered). own ++ r) k, subst (At good before) all-is a, own_below, omega (arith, is, h.next, h.here, all-length), omega (arith, is))

    taken_back : (puts : List CopyAt) → At good ((h.before ++ (N ∷ [])) ++ puts) (old ++ h.mine) → At good (log ++ puts) (old ++ without N.item.number own) × Below (suc (length (old ++ without N.item.number own))) (without N.item.number own) × (N.item.number ≡ suc (length (old ++ without N.item.number own)))
    taken_back puts a =
        subst (λ (o : List Numbered). At good (log ++ puts) (old ++ o) × Below (suc (length (old ++ o))) o × (N.item.number ≡ suc (length (old ++ o)))) (sym out_of)
        (subst (λ (l : List CopyAt). At good l (old ++ h.mine)) (whole puts) a, h.below, h.here)

  step : (old : List Numbered) (log : List CopyAt) (own : List Numbered) (s : Standing) (d : AnsweredCall) (puts : List CopyAt) (e : Standing) → CallStep good log s d puts e → Holds old log own s → Holds old (log ++ puts) (kept_after own d) e
  step old log own s d puts e (declined k) h = nothing_put old log own s h
  step old log own s d puts e (declined_again {n}) h = subst (λ (o : List Numbered). Holds old (log ++ []) o (unwritten n)) (sym (not_there n own (subst (λ (x : ℕ). Below x own) (sym h.2) h.1))) (nothing_put old log own (unwritten n) h)
  step old log own s d puts e (not_begun w) h = nothing_put old log own s h
  step old log own s d puts e (begun out n b r) h = subst (λ (o : List Numbered). Holds old (log ++ []) o (ready n)) (sym (append-nil own)) (nothing_put old log own (ready n) (h.0, h.1, ap expected (sym r ∙ h.0.1)))
  step old log own s d puts e (first-item {n} {call} M p k) h =
      let is = handed-number call n M k in
      (log, own, refl, ap (λ (r : List Numbered). own ++ r) k, h.0, h.1, is ∙ h.2, ap suc (sym is))
  step old log own s d puts e (followed {n} {N} {call} M at to m k t l) h =
      let w = held old log own n N h in
      let is = handed-number call n M k in
      let g = follow w.before (old ++ w.mine) N M at to m w.at w.here (omega (arith, is, w.next, w.here)) t l in
      next_pending old log own n N w call M g.0 (placed (to 0) M ∷ rewritten_with at to N.item M 1 m) (to m) k (sym (whole old log own n N w (placed (to 0) M ∷ rewritten_with at to N.item M 1 m)) ∙ g.1) g.2
  step old log own s d puts e (not_followed {n} {N} {call} M at to k t) h =
      let w = held old log own n N h in
      let is = handed-number call n M k in
      taken_back old log own n N w (placed (to 0) M ∷ rewritten_with at to N.item M 1 more_writings) (not_follow w.before (old ++ w.mine) N M at to w.at (omega (arith, is, w.next, w.here)) t)
  step old log own s d puts e (changed_track {n} {N} {call} M at p m k t l) h =
      let w = held old log own n N h in
      let g = finish w.before (old ++ w.mine) N at m w.at w.here t l in
      next_pending old log own n N w call M ((w.before ++ (N ∷ [])) ++ rewritten at N.item 1 (min (suc m) more_writings)) (rewritten at N.item 1 (min (suc m) more_writings) ++ (placed p M ∷ [])) p k (sym (whole old log own n N w (rewritten at N.item 1 (min (suc m) more_writings) ++ (placed p M ∷ []))) ∙ sym (append_assoc (w.before ++ (N ∷ [])) (rewritten at N.item 1 (min (suc m) more_writings)) (placed p M ∷ []))) g
  step old log own s d puts e (not_changed {n} {N} {call} at t) h =
      let w = held old log own n N h in
      taken_back old log own n N w (rewritten at N.item 1 more_writings) (not_finish w.before (old ++ w.mine) N at w.at t)
  step old log own s d puts e closed_clear h = nothing_put old log own at_rest (h.0, h.1)
  step old log own s d puts e closed_failed h = nothing_put old log own at_rest (h.0, h.1)
  step old log own s d puts e (finished {n} {N} at m t l) h =
      let w = held old log own n N h in
      (subst (At good (log ++ rewritten at N.item 1 (min (suc m) more_writings))) (all-is old log own n N w) (subst (λ (x : List CopyAt). At good x ((old ++ w.mine) ++ (N.item ∷ []))) (whole old log own n N w (rewritten at N.item 1 (min (suc m) more_writings))) (finish w.before (old ++ w.mine) N at m w.at w.here t l)), own_below old log own n N w)
  step old log own s d puts e (not_finished {n} {N} at t) h =
      let w = held old log own n N h in
      let g = taken_back old log own n N w (rewritten at N.item 1 more_writings) (not_finish w.before (old ++ w.mine) N at w.at t) in
      (g.0, g.1)

  stepped : (old : List Numbered) (log : List CopyAt) (own : List Numbered) (s : Standing) (ds : List AnsweredCall) (end : List CopyAt) (e : Standing) → CallSteps good log s ds end e → Holds old log own s → Holds old end (fold kept_after own ds) e
  stepped old log own s ds end e no_step h = h
  stepped old log own s ds end e (one_step {m} {d} {ds = rest} puts one then) h = stepped old (log ++ puts) (kept_after own d) m rest end e then (step old log own s d puts m one h)

  -- two operators, one after the other: what is read is the first's kept list, then the second's
  pub two_operators : (first second : List AnsweredCall) (middle end : List CopyAt) → CallSteps good [] at_rest first middle at_rest → CallSteps good middle at_rest second end at_rest → At good end (kept_list first ++ kept_list second)
  two_operators first second middle end a b =
      let h : Holds [] middle (kept_list first) at_rest = stepped [] [] [] at_rest first middle at_rest a ((false, refl), tt) in
      (stepped (kept_list first) middle [] at_rest second end at_rest b (subst (At good middle) (sym (append-nil (kept_list first))) h.0, tt)).0
