-- Two lists in tape order that hold the same copies are one list.
use Rattle.std.proofs.Common.{◌≡◌, Bool, true, false, cond, List, [], ◌∷◌, ◌++◌, filter, sym, refl, ap, ◌∙◌, subst, inl, inr, arith}
use Rattle.std.proofs.lemmas.Bool.{true≢false}
use Rattle.tape.specs.Tape.{Tape}
use Rattle.replay.specs.Copies.{TapePlace, CopyAt, Sound, Before, BeforeAll, Ascending, In, here, there, Lists, NoFalseCopy}

pub apart : (a b : TapePlace) → Before a b → Before b a → ⊥
apart a b (inl h) (inl k) = omega arith
apart a b (inl h) (inr k) = omega arith
apart a b (inr h) (inl k) = omega arith
apart a b (inr h) (inr k) = omega arith

before-all_in : (f g : CopyAt) (fs : List CopyAt) → BeforeAll f fs → In g fs → Before f.place g.place
before-all_in f g [] a i = elim i [ ]
before-all_in f g (h ∷ fs) a here = a.0
before-all_in f g (h ∷ fs) a (there i) = before-all_in f g fs a.1 i

-- a member is the first or one of the rest
pub split : {A P : Type 0} (f g : A) (fs : List A) → In f (g ∷ fs) → (f ≡ g → P) → (In f fs → P) → P
split f g fs here p q = p refl
split f g fs (there i) p q = q i

never : (f : CopyAt) → Before f.place f.place → ⊥
never f b = apart f.place f.place b b

pub same : (xs ys : List CopyAt) → Ascending xs → Ascending ys → ((f : CopyAt) → In f xs → In f ys) → ((f : CopyAt) → In f ys → In f xs) → xs ≡ ys
same [] [] a b to from = refl
same [] (y ∷ ys) a b to from = elim (from y here) [ ]
same (x ∷ xs) [] a b to from = elim (to x here) [ ]
same (x ∷ xs) (y ∷ ys) a b to from =
    let e : x ≡ y = split x y ys (to x here) (λ p. p) (λ i. split y x xs (from y here) sym (λ j. absurd (apart y.place x.place (before-all_in y x ys b.0 i) (before-all_in x y xs a.0 j)))) in
    let rest : xs ≡ ys = same xs ys a.1 b.1
    (λ f i. split f y ys (to f (there i)) (λ p. absurd (never x (subst (λ (g : CopyAt). Before x.place g.place) (p ∙ sym e) (before-all_in x f xs a.0 i)))) (λ j. j))
    (λ f i. split f x xs (from f (there i)) (λ p. absurd (never y (subst (λ (g : CopyAt). Before y.place g.place) (p ∙ e) (before-all_in y f ys b.0 i)))) (λ j. j)) in
    ap (λ (z : CopyAt). z ∷ xs) e ∙ ap (λ (zs : List CopyAt). y ∷ zs) rest

before-all-append : (f : CopyAt) (xs ys : List CopyAt) → BeforeAll f xs → BeforeAll f ys → BeforeAll f (xs ++ ys)
before-all-append f [] ys a b = b
before-all-append f (x ∷ xs) ys a b = (a.0, before-all-append f xs ys a.1 b)

pub before-all_from : (f : CopyAt) (ys : List CopyAt) → ((g : CopyAt) → In g ys → Before f.place g.place) → BeforeAll f ys
before-all_from f [] h = tt
before-all_from f (y ∷ ys) h = (h y here, before-all_from f ys (λ g i. h g (there i)))

pub ascending_append : (xs ys : List CopyAt) → Ascending xs → Ascending ys → ((f g : CopyAt) → In f xs → In g ys → Before f.place g.place) → Ascending (xs ++ ys)
ascending_append [] ys a b h = b
ascending_append (x ∷ xs) ys a b h = (before-all-append x xs ys a.0 (before-all_from x ys (λ g i. h x g here i)), ascending_append xs ys a.1 b (λ f g i j. h f g (there i) j))

pub in_append : {A P : Type 0} (f : A) (xs ys : List A) → In f (xs ++ ys) → (In f xs → P) → (In f ys → P) → P
in_append f [] ys i p q = q i
in_append f (x ∷ xs) ys here p q = p here
in_append f (x ∷ xs) ys (there i) p q = in_append f xs ys i (λ j. p (there j)) q

pub in_left : {A : Type 0} (f : A) (xs ys : List A) → In f xs → In f (xs ++ ys)
in_left f [] ys i = elim i [ ]
in_left f (x ∷ xs) ys here = here
in_left f (x ∷ xs) ys (there i) = there (in_left f xs ys i)

pub in_right : {A : Type 0} (f : A) (xs ys : List A) → In f ys → In f (xs ++ ys)
in_right f [] ys i = i
in_right f (x ∷ xs) ys i = there (in_right f xs ys i)

-- what is kept of a log in tape order is in tape order, and is the good copies of it
module _ (good : CopyAt → Bool) where
  kept_by_in : (f : CopyAt) (log : List CopyAt) → In f log → good f ≡ true → In f (filter good log)
  kept_by_in f [] i t = elim i [ ]
  kept_by_in f (g ∷ log) i t = go (good g) refl (λ j. kept_by_in f log j t)
    where
      go : (b : Bool) → good g ≡ b → (In f log → In f (filter good log)) → In f (cond b (g ∷ filter good log) (filter good log))
      go true e ih = split f g log i (λ p. subst (λ (z : CopyAt). In f (z ∷ filter good log)) p here) (λ j. there (ih j))
      go false e ih = split f g log i (λ p. absurd (true≢false (sym t ∙ (ap good p ∙ e)))) ih

  kept_by_of : (f : CopyAt) (log : List CopyAt) → In f (filter good log) → In f log × (good f ≡ true)
  kept_by_of f [] i = elim i [ ]
  kept_by_of f (g ∷ log) i = go (good g) refl i (kept_by_of f log)
    where
      go : (b : Bool) → good g ≡ b → In f (cond b (g ∷ filter good log) (filter good log)) → (In f (filter good log) → In f log × (good f ≡ true)) → In f (g ∷ log) × (good f ≡ true)
      go true e j ih = split f g (filter good log) j (λ p. (subst (λ (z : CopyAt). In f (z ∷ log)) p here, ap good p ∙ e)) (λ k. (there (ih k).0, (ih k).1))
      go false e j ih = (there (ih j).0, (ih j).1)

  kept_by_before : (f : CopyAt) (log : List CopyAt) → BeforeAll f log → BeforeAll f (filter good log)
  kept_by_before f [] a = tt
  kept_by_before f (g ∷ log) a = go (good g) (kept_by_before f log a.1)
    where
      go : (b : Bool) → BeforeAll f (filter good log) → BeforeAll f (cond b (g ∷ filter good log) (filter good log))
      go true h = (a.0, h)
      go false h = h

  kept_by_ascending : (log : List CopyAt) → Ascending log → Ascending (filter good log)
  kept_by_ascending [] a = tt
  kept_by_ascending (g ∷ log) a = go (good g) (kept_by_ascending log a.1)
    where
      go : (b : Bool) → Ascending (filter good log) → Ascending (cond b (g ∷ filter good log) (filter good log))
      go true h = (kept_by_before g log a.0, h)
      go false h = h

  -- with no false copy, the sound copies of the tape are the good ones of the log
  pub found : (c : Tape) (fs log : List CopyAt) → Lists c fs → Ascending log → ((f : CopyAt) → good f ≡ true → Sound c f) → ((f : CopyAt) → Sound c f → good f ≡ true) → NoFalseCopy c log → fs ≡ filter good log
  found c fs log l a sound good-is none =
      same fs (filter good log) l.ordered (kept_by_ascending log a)
      (λ f i. kept_by_in f log (none f (l.each f i)) (good-is f (l.each f i)))
      (λ f i. l.all f (sound f (kept_by_of f log i).1))
