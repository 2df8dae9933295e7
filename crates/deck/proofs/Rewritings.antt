-- Which writing of an item came out good first, judged as they are made and on any later tape.
use Rattle.std.proofs.Common.{◌≡◌, ℕ, zero, suc, ◌+◌, ◌<◌, ◌≤◌, Bool, true, false, cond, ltb, sym, refl, ap, ◌∙◌, inl, inr, arith, below_more}
use Rattle.std.proofs.lemmas.Bool.{cases_Bool, lt-ltb, le-ltb, cond-true, cond-false}
use Rattle.std.proofs.lemmas.Bool.Decides.{same_from_decides}
use Rattle.tape.specs.Tape.{Tape}
use Rattle.replay.specs.declared.place.TapePlace.{TapePlace}
use Rattle.replay.specs.Copies.{OfCartridge, CopyAt, placed, Whole}
use Rattle.replay.specs.Scan.{stands}
use Rattle.replay.proofs.Growing.{Extends, of_cartridge_before, whole-more, sound_same}
use Rattle.replay.proofs.SoundCopies.{stands_exactly}
use Rattle.deck.specs.Measures.{most_writings, more_writings}
use Rattle.deck.specs.Rewriting.{first_passing, writing_good, failed_writings}

-- the least at which a test passes
pub first-least : (n : ℕ) (test : ℕ → Bool) (j : ℕ) → j < n → ((k : ℕ) → k < j → test k ≡ false) → test j ≡ true → first_passing n test ≡ j
first-least zero test j h f t = absurd (omega arith)
first-least (suc n) test zero h f t = cond-true (test 0) 0 (suc (first_passing n (λ k. test (suc k)))) t
first-least (suc n) test (suc j) h f t =
    cond-false (test 0) 0 (suc (first_passing n (λ k. test (suc k)))) (f 0 (omega arith)) ∙
    ap suc (first-least n (λ k. test (suc k)) j (omega arith) (λ k l. f (suc k) (omega arith)) t)

pub first-none : (n : ℕ) (test : ℕ → Bool) → ((k : ℕ) → k < n → test k ≡ false) → first_passing n test ≡ n
first-none zero test f = refl
first-none (suc n) test f =
    cond-false (test 0) 0 (suc (first_passing n (λ k. test (suc k)))) (f 0 (omega arith)) ∙
    ap suc (first-none n (λ k. test (suc k)) (λ k l. f (suc k) (omega arith)))

-- two tests that agree up to the least at which one passes
pub first_same : (n : ℕ) (f g : ℕ → Bool) → ((k : ℕ) → k ≤ first_passing n f → k < n → f k ≡ g k) → first_passing n f ≡ first_passing n g
first_same zero f g h = refl
first_same (suc n) f g h =
    let rest-f = first_passing n (λ k. f (suc k)) in
    let rest-g = first_passing n (λ k. g (suc k)) in
    elim (cases_Bool (f 0)) [
      | inl t ↦ cond-true (f 0) 0 (suc rest-f) t ∙ sym (cond-true (g 0) 0 (suc rest-g) (sym (h 0 (omega arith) (omega arith)) ∙ t))
      | inr t ↦
          let is : cond (f 0) 0 (suc rest-f) ≡ suc rest-f = cond-false (f 0) 0 (suc rest-f) t in
          let more : rest-f ≡ rest-g = first_same n (λ k. f (suc k)) (λ k. g (suc k)) (λ k a b. h (suc k) (omega arith) (omega arith)) in
          is ∙ (ap suc more ∙ sym (cond-false (g 0) 0 (suc rest-g) (sym (h 0 (omega arith) (omega arith)) ∙ t)))
    ]

-- what lies whole is judged alike on every later tape
pub stands_same : (a b : Tape) → Extends a b → OfCartridge b → (f : CopyAt) → Whole a f → stands a f ≡ stands b f
stands_same a b x k f w =
    let s = sound_same a b f x w in
    let d = stands_exactly a (of_cartridge_before a b x k) f in
    let l = stands_exactly b k f in
    same_from_decides (stands a f) (stands b f) (d.0, d.1) (λ t. s.0 (l.0 t), λ z. l.1 (s.1 z))

module _ (N : CopyAt) (at : ℕ → TapePlace) where
  -- the j-th writing of an item: N, the copy that stands, is writing 0
  abbrev pub writing : ℕ → CopyAt
  writing zero = N
  writing (suc j) = placed (at (suc j)) N.item

  writing_judged : (good : CopyAt → Bool) (j : ℕ) → writing_good good N at j ≡ good (writing j)
  writing_judged good zero = refl
  writing_judged good (suc j) = refl

  -- the writings before the j-th failed, and lie whole
  pub record Failed (c : Tape) (j : ℕ) : Type 0 where
    pub whole : (k : ℕ) → k < j → Whole c (writing k)
    pub judged : (k : ℕ) → k < j → stands c (writing k) ≡ false

  pub failed_none : (c : Tape) → Failed c 0
  failed_none c = record { whole = λ k h. absurd (omega arith); judged = λ k h. absurd (omega arith) }

  -- one more, and the tape that grew since
  pub failed_more : (a b : Tape) (j : ℕ) → Extends a b → OfCartridge b → Failed a j → Whole a (writing j) → stands a (writing j) ≡ false → Failed b (j + 1)
  failed_more a b j x k f w e = record {
    whole = below_more (λ i. Whole b (writing i)) j (λ i h. whole-more a b (writing i) x (f.whole i h)) (whole-more a b (writing j) x w);
    judged = below_more (λ i. stands b (writing i) ≡ false) j (λ i h. sym (stands_same a b x k (writing i) (f.whole i h)) ∙ f.judged i h) (sym (stands_same a b x k (writing j) w) ∙ e);
  }

  -- the same on a tape that grew
  pub failed_later : (a b : Tape) (j : ℕ) → Extends a b → OfCartridge b → Failed a j → Failed b j
  failed_later a b j x k f = record { whole = λ i h. whole-more a b (writing i) x (f.whole i h); judged = λ i h. sym (stands_same a b x k (writing i) (f.whole i h)) ∙ f.judged i h }

  -- the j-th is the first good one
  pub failed_then_good : (c : Tape) (j : ℕ) → j ≤ more_writings → Failed c j → stands c (writing j) ≡ true → failed_writings (stands c) N at ≡ j
  unfolding failed_writings
  failed_then_good c j h f e = first-least most_writings (writing_good (stands c) N at) j (omega arith) (λ k l. writing_judged (stands c) k ∙ f.judged k l) (writing_judged (stands c) j ∙ e)

  -- only the last writing is left to judge
  pub failed_to_last : (c : Tape) (b : Bool) → Failed c more_writings → b ≡ stands c (writing more_writings) → (more_writings ≤ failed_writings (stands c) N at) × (b ≡ ltb (failed_writings (stands c) N at) most_writings)
  unfolding failed_writings
  failed_to_last c true f e =
      let m = failed_then_good c more_writings (omega arith) f (sym e) in
      (omega (arith, m), sym (lt-ltb (failed_writings (stands c) N at) most_writings (omega (arith, m))))
  failed_to_last c false f e =
      let m : failed_writings (stands c) N at ≡ most_writings = first-none most_writings (writing_good (stands c) N at) (below_more (λ k. writing_good (stands c) N at k ≡ false) more_writings (λ k l. writing_judged (stands c) k ∙ f.judged k l) (writing_judged (stands c) more_writings ∙ sym e)) in
      (omega (arith, m), sym (le-ltb (failed_writings (stands c) N at) most_writings (omega (arith, m))))

  -- the count is the same on every later tape, if the writings up to the first good one lie whole
  pub failures_later : (a b : Tape) → Extends a b → OfCartridge b → ((k : ℕ) → k ≤ failed_writings (stands a) N at → k ≤ more_writings → Whole a (writing k)) → failed_writings (stands a) N at ≡ failed_writings (stands b) N at
  unfolding failed_writings
  failures_later a b x k w =
      first_same most_writings (writing_good (stands a) N at) (writing_good (stands b) N at) (λ i h l. writing_judged (stands a) i ∙ (stands_same a b x k (writing i) (w i h (omega arith)) ∙ sym (writing_judged (stands b) i)))
