-- Next finds what stands on the tape from its cursor on.
use Rattle.std.proofs.Common.{◌≡◌, ℕ, suc, ◌<◌, ◌≤◌, Bool, true, false, eqb, ltb, ◌⊎◌, List, [], ◌∷◌, ◌++◌, Some, None, Ok, Err, Option, Result, sym, refl, ap, ◌∙◌, subst, inl, inr, ⊎_elim, append_assoc, arith, MatchOption}
use Rattle.std.specs.List.{AllByRecursion}
use Rattle.std.proofs.lemmas.Bool.{cond_both, ltb-true, ltb-false, eqb-true, eqb-false, false≢true}
use Rattle.qic24.specs.Copy.{Numbered}
use Rattle.qic24.specs.declared.fault.CopyFault.{CopyFault}
use Rattle.tape.specs.Tape.{Tape}
use Rattle.replay.specs.Copies.{OfCartridge, TapePlace, CopyAt, placed, Sound, Before, AtOrAfter, In, here, there}
use Rattle.replay.specs.Replay.{UnsoundOpening, UnlocatedNumber}
use Rattle.replay.specs.Scan.{read_here, OpeningAt, openings_from}
use Rattle.replay.specs.Seeking.{FindResult, found_item, found_end, found_beyond, seek, next_found}
use Rattle.replay.specs.Finding.{PassedOver, PassedBetween, UnsoundOn, LastUnsound, NoneUnsound, Finds, NextFinds}
use Rattle.replay.proofs.Orders.{apart, split, in_append, in_left, in_right}
use Rattle.replay.proofs.TapeOpenings.{GoesOn, right-here, further}
use Rattle.replay.proofs.ListedOpenings.{listed-each, listed-all, Ordered, listed-ordered}
use Rattle.replay.proofs.SoundCopies.{opening_of, read-each, read_all}

-- an opening that is passed over while n is expected
abbrev Passes : ℕ → Result Numbered CopyFault → Type 0
Passes n (Ok i) = PassedOver n i.number
Passes n (Err e) = Unit {0}

-- it holds the number after n
abbrev HoldsNext : ℕ → Result Numbered CopyFault → Type 0
HoldsNext n (Ok i) = i.number ≡ suc n
HoldsNext n (Err e) = ⊥

abbrev IsSound : Result Numbered CopyFault → Type 0
IsSound (Ok i) = Unit {0}
IsSound (Err e) = ⊥

-- the last unsound opening after one more, and after several
abbrev one_more : Option UnsoundOpening → TapePlace → Result Numbered CopyFault → Option UnsoundOpening
one_more u p (Ok i) = u
one_more u p (Err e) = Some (record { place = p; cause = e })

abbrev last-unsound : Option UnsoundOpening → List OpeningAt → Option UnsoundOpening
last-unsound u [] = u
last-unsound u (o ∷ os) = last-unsound (one_more u o.place o.reads) os

-- what is found among openings
record ItemAmong (n : ℕ) (os : List OpeningAt) (f : CopyAt) : Type 0 where
  before : List OpeningAt
  rest : List OpeningAt
  is : os ≡ before ++ (opening_of f.place (Ok f.item) ∷ rest)
  number : f.item.number ≡ n
  passes : AllByRecursion (λ o. Passes n o.reads) before

record EndAmong (n : ℕ) (b : Bool) (os : List OpeningAt) (r : Bool) : Type 0 where
  passes : AllByRecursion (λ o. Passes n o.reads) os
  seen : r ≡ true → (b ≡ true) ⊎ ((o : OpeningAt) × In o os × HoldsNext n o.reads)
  from_before : b ≡ true → r ≡ true
  from_one : (o : OpeningAt) → In o os → HoldsNext n o.reads → r ≡ true

record BeyondAmong (n : ℕ) (u : Option UnsoundOpening) (os : List OpeningAt) (w : UnlocatedNumber) : Type 0 where
  before : List OpeningAt
  rest : List OpeningAt
  item : Numbered
  is : os ≡ before ++ (opening_of w.found (Ok item) ∷ rest)
  beyond : suc n < item.number
  passes : AllByRecursion (λ o. Passes n o.reads) before
  expected : w.expected ≡ n
  unsound : w.unsound ≡ last-unsound u before

abbrev Among : ℕ → Bool → Option UnsoundOpening → List OpeningAt → FindResult → Type 0
Among n b u os (found_item f) = ItemAmong n os f
Among n b u os (found_end r) = EndAmong n b os r
Among n b u os (found_beyond w) = BeyondAmong n u os w

-- an opening that is passed over: b and u become b' and u'
among_more : (n : ℕ) (b b' : Bool) (u : Option UnsoundOpening) (p : TapePlace) (x : Result Numbered CopyFault) (os : List OpeningAt) (r : FindResult) →
    Passes n x → (b' ≡ true → (b ≡ true) ⊎ HoldsNext n x) → (b ≡ true → b' ≡ true) → (HoldsNext n x → b' ≡ true) →
    Among n b' (one_more u p x) os r → Among n b u (opening_of p x ∷ os) r
among_more n b b' u p x os (found_item f) h k l m a =
    record { before = opening_of p x ∷ a.before; rest = a.rest; is = ap (λ (zs : List OpeningAt). opening_of p x ∷ zs) a.is; number = a.number; passes = (h, a.passes) }
among_more n b b' u p x os (found_end r) h k l m a =
    record {
      passes = (h, a.passes);
      seen = λ e. ⊎_elim (λ q. ⊎_elim inl (λ z. inr (opening_of p x, here, z)) (k q)) (λ q. inr (q.0, there q.1, q.2)) (a.seen e);
      from_before = λ e. a.from_before (l e);
      from_one = λ o i z. split o (opening_of p x) os i (λ q. a.from_before (m (subst (λ (y : OpeningAt). HoldsNext n y.reads) q z))) (λ j. a.from_one o j z);
    }
among_more n b b' u p x os (found_beyond w) h k l m a =
    record {
      before = opening_of p x ∷ a.before;
      rest = a.rest;
      item = a.item;
      is = ap (λ (zs : List OpeningAt). opening_of p x ∷ zs) a.is;
      beyond = a.beyond;
      passes = (h, a.passes);
      expected = a.expected;
      unsound = a.unsound;
    }

seek_among : (n : ℕ) (b : Bool) (u : Option UnsoundOpening) (os : List OpeningAt) → Among n b u os (seek n b u os)
seek_among n b u [] = record { passes = tt; seen = inl; from_before = λ e. e; from_one = λ o i z. elim i [ ] }
seek_among n b u (o ∷ os) = go o.reads (λ c v. seek_among n c v os)
  where
    go : (x : Result Numbered CopyFault) → ((c : Bool) (v : Option UnsoundOpening) → Among n c v os (seek n c v os)) → Among n b u (opening_of o.place x ∷ os) (seek n b u (opening_of o.place x ∷ os))
    go (Err e) ih = among_more n b b u o.place (Err e) os (seek n b (Some (record { place = o.place; cause = e })) os) tt inl (λ q. q) (λ z. absurd z) (ih b (Some (record { place = o.place; cause = e })))
    go (Ok i) ih =
        cond_both (ltb i.number n) _ _ (Among n b u (opening_of o.place (Ok i) ∷ os))
        (λ l. let s = ltb-true i.number n l in among_more n b b u o.place (Ok i) os (seek n b u os) (inl s) inl (λ q. q) (λ z. absurd (omega arith)) (ih b u))
        (λ l. cond_both (eqb i.number n) _ _ (Among n b u (opening_of o.place (Ok i) ∷ os))
        (λ e. record { before = []; rest = os; is = refl; number = eqb-true i.number n e; passes = tt })
        (λ e. cond_both (eqb i.number (suc n)) _ _ (Among n b u (opening_of o.place (Ok i) ∷ os))
        (λ q. let z = eqb-true i.number (suc n) q in among_more n b true u o.place (Ok i) os (seek n true u os) (inr z) (λ _. inr z) (λ _. refl) (λ _. refl) (ih true u))
        (λ q. record { before = []; rest = os; item = i; is = refl; beyond = past (ltb-false i.number n l) (eqb-false i.number n e) (eqb-false i.number (suc n) q); passes = tt; expected = refl; unsound = refl })))
      where
        past : n ≤ i.number → (i.number ≡ n → ⊥) → (i.number ≡ suc n → ⊥) → suc n < i.number
        past a d f = grind arith

all_in : {A : Type 0} (P : A → Type 0) (x : A) (xs : List A) → AllByRecursion P xs → In x xs → P x
all_in P x [] a i = elim i [ ]
all_in P x (y ∷ xs) a i = split x y xs i (λ q. subst P (sym q) a.0) (λ j. all_in P x xs a.1 j)

-- where a list goes on after one of its parts
goes_middle : (xs : List OpeningAt) (o : OpeningAt) (rest : List OpeningAt) → GoesOn o rest (xs ++ (o ∷ rest))
goes_middle [] o rest = right-here
goes_middle (x ∷ xs) o rest = further (goes_middle xs o rest)

goes_in : (x : OpeningAt) (xs ys : List OpeningAt) → In x xs → (r : List OpeningAt) × GoesOn x (r ++ ys) (xs ++ ys)
goes_in x [] ys i = elim i [ ]
goes_in x (y ∷ xs) ys here = (xs, right-here)
goes_in x (y ∷ xs) ys (there i) = let (r, g) = goes_in x xs ys i in (r, further g)

module _ (os before : List OpeningAt) (o : OpeningAt) (rest : List OpeningAt) (is : os ≡ before ++ (o ∷ rest)) (ordered : Ordered os) where
  in_middle : In o os
  in_middle = subst (In o) (sym is) (in_right o before (o ∷ rest) here)

  -- those before it stand before it
  earlier : (x : OpeningAt) → In x before → Before x.place o.place
  earlier x i =
      let (r, g) = goes_in x before (o ∷ rest) i in
      ordered x (r ++ (o ∷ rest)) (subst (GoesOn x (r ++ (o ∷ rest))) (sym is) g) o (in_right o r (o ∷ rest) here)

  later : (x : OpeningAt) → In x rest → Before o.place x.place
  later x i = ordered o rest (subst (GoesOn o rest) (sym is) (goes_middle before o rest)) x i

  -- those that stand before it are before it
  in_before : (x : OpeningAt) → In x os → Before x.place o.place → In x before
  in_before x i b = in_append x before (o ∷ rest) (subst (In x) is i) (λ j. j)
      (λ j. split x o rest j (λ q. absurd (apart x.place x.place (subst (λ (z : OpeningAt). Before x.place z.place) (sym q) b) (subst (λ (z : OpeningAt). Before x.place z.place) (sym q) b))) (λ k. absurd (apart x.place o.place b (later x k))))

-- the last unsound one of some openings
record LastOf (u : Option UnsoundOpening) (os : List OpeningAt) (v : UnsoundOpening) : Type 0 where
  before : List OpeningAt
  rest : List OpeningAt
  is : os ≡ before ++ (opening_of v.place (Err v.cause) ∷ rest)
  sound : AllByRecursion (λ o. IsSound o.reads) rest

last_of : (u : Option UnsoundOpening) (os : List OpeningAt) → ((last-unsound u os ≡ u) × AllByRecursion (λ o. IsSound o.reads) os) ⊎ ((v : UnsoundOpening) × (last-unsound u os ≡ Some v) × LastOf u os v)
last_of u [] = inl (refl, tt)
last_of u (o ∷ os) = go o.reads (λ v. last_of v os)
  where
    go : (x : Result Numbered CopyFault) → ((v : Option UnsoundOpening) → ((last-unsound v os ≡ v) × AllByRecursion (λ o. IsSound o.reads) os) ⊎ ((w : UnsoundOpening) × (last-unsound v os ≡ Some w) × LastOf v os w)) →
        ((last-unsound u (opening_of o.place x ∷ os) ≡ u) × AllByRecursion (λ o. IsSound o.reads) (opening_of o.place x ∷ os)) ⊎ ((w : UnsoundOpening) × (last-unsound u (opening_of o.place x ∷ os) ≡ Some w) × LastOf u (opening_of o.place x ∷ os) w)
    go (Ok i) ih = elim (ih u) [
      | inl a ↦ inl (a.0, (tt, a.1))
      | inr a ↦ inr (a.0, a.1, record { before = opening_of o.place (Ok i) ∷ a.2.before; rest = a.2.rest; is = ap (λ (zs : List OpeningAt). opening_of o.place (Ok i) ∷ zs) a.2.is; sound = a.2.sound })
    ]
    go (Err e) ih = elim (ih (Some (record { place = o.place; cause = e }))) [
      | inl a ↦ inr (record { place = o.place; cause = e }, a.0, record { before = []; rest = os; is = refl; sound = a.1 })
      | inr a ↦ inr (a.0, a.1, record { before = opening_of o.place (Err e) ∷ a.2.before; rest = a.2.rest; is = ap (λ (zs : List OpeningAt). opening_of o.place (Err e) ∷ zs) a.2.is; sound = a.2.sound })
    ]

at-or-after-before : (p a b : TapePlace) → AtOrAfter p a → Before a b → AtOrAfter p b
at-or-after-before p a b (inl h) (inl k) = inl (omega arith)
at-or-after-before p a b (inl h) (inr k) = inl (omega arith)
at-or-after-before p a b (inr h) (inl k) = inl (omega arith)
at-or-after-before p a b (inr h) (inr k) = inr (h.0 ∙ k.0, omega arith)

module _ (c : Tape) (h : OfCartridge c) (p : TapePlace) where
  unsound-each : (v : UnsoundOpening) → In (opening_of v.place (Err v.cause)) (openings_from c p) → UnsoundOn c v × AtOrAfter p v.place
  unfolding read_here
  unsound-each v i = let w = listed-each c p (opening_of v.place (Err v.cause)) i in (record { opens = w.opens; cause = sym w.reads }, w.past)

  unsound-all : (v : UnsoundOpening) → UnsoundOn c v → AtOrAfter p v.place → In (opening_of v.place (Err v.cause)) (openings_from c p)
  unfolding read_here
  unsound-all v w l = subst (λ (x : Result Numbered CopyFault). In (opening_of v.place x) (openings_from c p)) w.cause (listed-all c p v.place.on v.place.at w.opens l)

  -- what was passed over before an opening of the tape
  passed-before : (n : ℕ) (before : List OpeningAt) (o : OpeningAt) (rest : List OpeningAt) → openings_from c p ≡ before ++ (o ∷ rest) → AllByRecursion (λ x. Passes n x.reads) before → PassedBetween c n p o.place
  passed-before n before o rest is a g s l b =
      all_in (λ x. Passes n x.reads) (opening_of g.place (Ok g.item)) before a (in_before (openings_from c p) before o rest is (listed-ordered c p) (opening_of g.place (Ok g.item)) (read_all c h p g s l) b)

  -- the last unsound opening before one of the tape
  unsound-before : (before : List OpeningAt) (o : OpeningAt) (rest : List OpeningAt) → openings_from c p ≡ before ++ (o ∷ rest) → MatchOption (last-unsound None before) (NoneUnsound c p o.place) (λ v. LastUnsound c p o.place v)
  unsound-before before o rest is = elim (last_of None before) [ inl a ↦ none a.0 a.1 | inr a ↦ some a.0 a.1 a.2 ]
    where
      none : last-unsound None before ≡ None → AllByRecursion (λ x. IsSound x.reads) before → MatchOption (last-unsound None before) (NoneUnsound c p o.place) (λ v. LastUnsound c p o.place v)
      none e a =
          subst (λ (u : Option UnsoundOpening). MatchOption u (NoneUnsound c p o.place) (λ v. LastUnsound c p o.place v)) (sym e)
          (λ v w l b. all_in (λ x. IsSound x.reads) (opening_of v.place (Err v.cause)) before a (in_before (openings_from c p) before o rest is (listed-ordered c p) (opening_of v.place (Err v.cause)) (unsound-all v w l) b))

      some : (v : UnsoundOpening) → last-unsound None before ≡ Some v → LastOf None before v → MatchOption (last-unsound None before) (NoneUnsound c p o.place) (λ v. LastUnsound c p o.place v)
      some v e a =
          let x : OpeningAt = opening_of v.place (Err v.cause) in
          let i : In (opening_of v.place (Err v.cause)) before = subst (In (opening_of v.place (Err v.cause))) (sym a.is) (in_right (opening_of v.place (Err v.cause)) a.before (opening_of v.place (Err v.cause) ∷ a.rest) here) in
          let j : In (opening_of v.place (Err v.cause)) (openings_from c p) = subst (In (opening_of v.place (Err v.cause))) (sym is) (in_left (opening_of v.place (Err v.cause)) before (o ∷ rest) i) in
          let w = unsound-each v j in
          let whole : openings_from c p ≡ a.before ++ (opening_of v.place (Err v.cause) ∷ (a.rest ++ (o ∷ rest))) = is ∙ (ap (λ (zs : List OpeningAt). zs ++ (o ∷ rest)) a.is ∙ append_assoc a.before (opening_of v.place (Err v.cause) ∷ a.rest) (o ∷ rest)) in
          subst (λ (u : Option UnsoundOpening). MatchOption u (NoneUnsound c p o.place) (λ v. LastUnsound c p o.place v)) (sym e)
          (record {
            unsound = w.0;
            past = w.1;
            before = earlier (openings_from c p) before o rest is (listed-ordered c p) (opening_of v.place (Err v.cause)) i;
            last = λ z k b d. in_append (opening_of z.place (Err z.cause)) a.before (opening_of v.place (Err v.cause) ∷ a.rest)
                (subst (In (opening_of z.place (Err z.cause))) a.is (in_before (openings_from c p) before o rest is (listed-ordered c p) (opening_of z.place (Err z.cause)) (unsound-all z k (at-or-after-before p v.place z.place w.1 b)) d))
                (λ m. apart v.place z.place b (earlier (openings_from c p) a.before (opening_of v.place (Err v.cause)) (a.rest ++ (o ∷ rest)) whole (listed-ordered c p) (opening_of z.place (Err z.cause)) m))
                (λ m. split (opening_of z.place (Err z.cause)) (opening_of v.place (Err v.cause)) a.rest m
                (λ q. let same : z.place ≡ v.place = ap (λ (y : OpeningAt). y.place) q in apart v.place z.place b (subst (λ (y : TapePlace). Before y v.place) (sym same) (subst (λ (y : TapePlace). Before v.place y) same b)))
                (λ t. all_in (λ y. IsSound y.reads) (opening_of z.place (Err z.cause)) a.rest a.sound t));
          })

  found_things : (n : ℕ) (x : FindResult) → Among n false None (openings_from c p) x → Finds c n p x
  found_things n (found_item f) a =
      let w = read-each c h p f (in_middle (openings_from c p) a.before (opening_of f.place (Ok f.item)) a.rest a.is (listed-ordered c p)) in
      record { sound = w.0; number = a.number; past = w.1; passed = passed-before n a.before (opening_of f.place (Ok f.item)) a.rest a.is a.passes }
  found_things n (found_end r) a =
      record {
        all_passed = λ g s l. all_in (λ x. Passes n x.reads) (opening_of g.place (Ok g.item)) (openings_from c p) a.passes (read_all c h p g s l);
        tells = (λ e. ⊎_elim (λ q. absurd (false≢true q)) (λ q. seen_copy q.0 q.1 q.2) (a.seen e), λ q. a.from_one (opening_of q.0.place (Ok q.0.item)) (read_all c h p q.0 q.1 q.2) q.3);
      }
    where
      seen_copy : (o : OpeningAt) → In o (openings_from c p) → HoldsNext n o.reads → (g : CopyAt) × Sound c g × AtOrAfter p g.place × (g.item.number ≡ suc n)
      seen_copy o i z = go o.reads i z
        where
          go : (x : Result Numbered CopyFault) → In (opening_of o.place x) (openings_from c p) → HoldsNext n x → (g : CopyAt) × Sound c g × AtOrAfter p g.place × (g.item.number ≡ suc n)
          go (Ok i) j k = let w = read-each c h p (placed o.place i) j in (placed o.place i, w.0, w.1, k)
          go (Err e) j k = absurd k
  found_things n (found_beyond w) a =
      let o : OpeningAt = opening_of w.found (Ok a.item) in
      let s = read-each c h p (placed w.found a.item) (in_middle (openings_from c p) a.before (opening_of w.found (Ok a.item)) a.rest a.is (listed-ordered c p)) in
      record {
        expected = a.expected;
        item = a.item;
        sound = s.0;
        beyond = a.beyond;
        past = s.1;
        passed = passed-before n a.before (opening_of w.found (Ok a.item)) a.rest a.is a.passes;
        unsound = subst (λ (u : Option UnsoundOpening). MatchOption u (NoneUnsound c p w.found) (λ v. LastUnsound c p w.found v)) (sym a.unsound) (unsound-before a.before (opening_of w.found (Ok a.item)) a.rest a.is);
      }

pub next_finds : NextFinds
next_finds c h k = found_things c h k.from k.expected (next_found c k) (seek_among k.expected false None (openings_from c k.from))
