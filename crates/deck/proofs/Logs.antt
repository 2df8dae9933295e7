-- What a replay hands out of the copies that calls put.
use Rattle.std.proofs.Common.{◌≡◌, ℕ, zero, suc, ◌<◌, Bool, true, false, cond, ◌⊎◌, List, [], ◌∷◌, ◌++◌, length, filter, sym, refl, ap, ◌∙◌, inl, inr, arith, length-append}
use Rattle.std.proofs.lemmas.List.Elements.{filter-append}
use Rattle.std.proofs.lemmas.Bool.{lt-ltb, le-ltb, eq-eqb, ne_eqb, cond-true, cond-false, true≢false}
use Rattle.qic24.specs.Cells.{fold}
use Rattle.qic24.specs.Copy.{Numbered}
use Rattle.qic24.proofs.Binary.{fold-append}
use Rattle.replay.specs.Copies.{CopyAt}
use Rattle.replay.specs.Replay.{ReplayState, expecting, advance, rewound}
use Rattle.deck.specs.Rewriting.{first_passing}
use Rattle.deck.proofs.Steps.{replay_of}

none_below : {k : ℕ} → k < 0 → ⊥
none_below h = omega arith

module _ (good : CopyAt → Bool) where
  replay_of_append : (xs ys : List CopyAt) → replay_of good (xs ++ ys) ≡ fold advance (replay_of good xs) (filter good ys)
  replay_of_append xs ys = ap (fold advance rewound) (filter-append good xs ys) ∙ fold-append advance (filter good xs) (filter good ys) rewound

  -- the log has been replayed as these items, and the next number is expected
  abbrev pub At : List CopyAt → List Numbered → Type 0
  At log out = (b : Bool) × (replay_of good log ≡ expecting out (suc (length out)) b)

  -- a copy that a replay which expects n passes over
  abbrev pub Passed : ℕ → CopyAt → Type 0
  Passed n f = (good f ≡ false) ⊎ ((f.item.number < n) ⊎ (f.item.number ≡ suc n))

  abbrev pub AllPassed : ℕ → List CopyAt → Type 0
  AllPassed n [] = Unit {0}
  AllPassed n (f ∷ fs) = Passed n f × AllPassed n fs

  one_passed : (out : List Numbered) (n : ℕ) (b : Bool) (f : CopyAt) → (f.item.number < n) ⊎ (f.item.number ≡ suc n) → (c : Bool) × (advance (expecting out n b) f ≡ expecting out n c)
  one_passed out n b f (inl h) = (b, cond-true _ _ _ (lt-ltb f.item.number n h))
  one_passed out n b f (inr e) = (
    true,
    cond-false _ _ _ (le-ltb f.item.number n (omega arith)) ∙
        (cond-false _ _ _ (ne_eqb f.item.number n (λ d. omega arith)) ∙ cond-true _ _ _ (eq-eqb f.item.number (suc n) e)),
  )

  -- what is passed over changes nothing but whether n + 1 was passed
  passed : (out : List Numbered) (n : ℕ) (b : Bool) (fs : List CopyAt) → AllPassed n fs → (c : Bool) × (fold advance (expecting out n b) (filter good fs) ≡ expecting out n c)
  passed out n b [] h = (b, refl)
  passed out n b (f ∷ fs) h = go (good f) refl h.0 (λ c. passed out n c fs h.1)
    where
      go : (t : Bool) → good f ≡ t → Passed n f → ((c : Bool) → (d : Bool) × (fold advance (expecting out n c) (filter good fs) ≡ expecting out n d)) → (d : Bool) × (fold advance (expecting out n b) (cond t (f ∷ filter good fs) (filter good fs)) ≡ expecting out n d)
      go false e p ih = ih b
      go true e (inl bad) ih = absurd (true≢false (sym e ∙ bad))
      go true e (inr w) ih =
          let (c, q) = one_passed out n b f w in
          let (d, r) = ih c in
          (d, ap (λ (s : ReplayState). fold advance s (filter good fs)) q ∙ r)

  pub at-passed : (log more : List CopyAt) (out : List Numbered) → At log out → AllPassed (suc (length out)) more → At (log ++ more) out
  at-passed log more out (b, e) h =
      let (c, q) = passed out (suc (length out)) b more h in
      (c, replay_of_append log more ∙ rw e q)

  -- a good copy of the expected number is handed out
  pub at-handed_out : (log : List CopyAt) (out : List Numbered) (f : CopyAt) → At log out → good f ≡ true → f.item.number ≡ suc (length out) → At (log ++ (f ∷ [])) (out ++ (f.item ∷ []))
  at-handed_out log out f (b, e) g k = (
    false,
    replay_of_append log (f ∷ []) ∙
        (ap (λ (t : Bool). fold advance (replay_of good log) (cond t (f ∷ []) [])) g ∙
        (ap (λ (s : ReplayState). advance s f) e ∙
        (cond-false _ _ _ (le-ltb f.item.number (suc (length out)) (omega arith)) ∙
        (cond-true _ _ _ (eq-eqb f.item.number (suc (length out)) k) ∙
        ap (λ (n : ℕ). expecting (out ++ (f.item ∷ [])) (suc n) false) (omega (arith, length-append out (f.item ∷ []))))))),
  )

  -- the copies of an item before the first good one are bad
  pub before-first : (n : ℕ) (test : ℕ → Bool) (k : ℕ) → k < first_passing n test → test k ≡ false
  before-first zero test k h = absurd (none_below h)
  before-first (suc n) test k h = go (test 0) refl k h (λ j. before-first n (λ i. test (suc i)) j)
    where
      go : (t : Bool) → test 0 ≡ t → (k : ℕ) → k < cond t 0 (suc (first_passing n (λ i. test (suc i)))) → ((j : ℕ) → j < first_passing n (λ i. test (suc i)) → test (suc j) ≡ false) → test k ≡ false
      go true e k h ih = absurd (none_below h)
      go false e zero h ih = e
      go false e (suc k) h ih = ih k (omega arith)

  pub at_first : (n : ℕ) (test : ℕ → Bool) → first_passing n test < n → test (first_passing n test) ≡ true
  at_first zero test h = absurd (none_below h)
  at_first (suc n) test h = go (test 0) refl h (at_first n (λ i. test (suc i)))
    where
      go : (t : Bool) → test 0 ≡ t → cond t 0 (suc (first_passing n (λ i. test (suc i)))) < suc n → (first_passing n (λ i. test (suc i)) < n → test (suc (first_passing n (λ i. test (suc i)))) ≡ true) → test (cond t 0 (suc (first_passing n (λ i. test (suc i))))) ≡ true
      go true e h ih = e
      go false e h ih = ih (omega arith)
