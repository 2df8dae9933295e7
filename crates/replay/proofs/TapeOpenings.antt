-- The openings of a tape from a place on, step by step, and what follows one of them.
use Rattle.std.proofs.Common.{◌≡◌, ℕ, zero, suc, ◌+◌, ◌-◌, ◌<◌, ◌≤◌, Bool, true, false, cond, leb, ◌⊎◌, List, [], ◌∷◌, ◌++◌, length, take, drop, sym, refl, ap, ◌∙◌, subst, inl, inr, ⊎_elim, arith}
use Rattle.std.specs.Str.{bytes_eq}
use Rattle.std.proofs.lemmas.Slice.Eq.{bytes_eq-Decides}
use Rattle.std.proofs.lemmas.List.{get_or_past}
use Rattle.std.proofs.lemmas.Bool.{leb-true, le-leb, cond-true, cond-false, cases_lt, cases_Bool}
use Rattle.std.proofs.lemmas.Bool.Decides.{Decides-and}
use Rattle.qic24.specs.Opening.{opening, Opens, NoneBetween}
use Rattle.qic24.proofs.Openings.{opens_within}
use Rattle.tape.specs.Tape.{Tape, track}
use Rattle.replay.specs.Copies.{TapePlace, place_on}
use Rattle.replay.specs.Laws.{OpensExactly}
use Rattle.replay.specs.Scan.{opens_here, OpeningAt, opening_here, openings_among, track_openings, tracks_openings, openings_from}

-- the test of an opening is exact
pub opens_exactly : OpensExactly
unfolding opens_here
opens_exactly c p = Decides-and (leb 14 p) (bytes_eq (take 14 (drop (p - 14) c)) opening) (leb-true 14 p, le-leb 14 p) (bytes_eq-Decides (take 14 (drop (p - 14) c)) opening)

pub opens_not : (c : List ℕ) (p : ℕ) → (Opens c p → ⊥) → opens_here c p ≡ false
opens_not c p h = ⊎_elim (λ e. absurd (h ((opens_exactly c p).0 e))) (λ e. e) (cases_Bool (opens_here c p))

module _ (t : ℕ) (c : List ℕ) where
  -- an opening at the place itself
  pub track_open : (p : ℕ) → Opens c p → track_openings t c p ≡ opening_here t c p ∷ track_openings t c (suc p)
  unfolding track_openings
  track_open p o =
      let w = opens_within c p o in
      let n : suc (length c) - p ≡ suc (suc (length c) - suc p) = omega arith in
      ap (openings_among t c p) n ∙ cond-true (opens_here c p) (opening_here t c p ∷ openings_among t c (suc p) (suc (length c) - suc p)) (openings_among t c (suc p) (suc (length c) - suc p)) ((opens_exactly c p).1 o)

  -- none at the place itself
  pub track_skip_one : (p : ℕ) → (Opens c p → ⊥) → track_openings t c p ≡ track_openings t c (suc p)
  unfolding track_openings
  track_skip_one p h = ⊎_elim
      (λ (k : length c < p).
      let n : suc (length c) - p ≡ 0 = omega arith in
      let m : suc (length c) - suc p ≡ 0 = omega arith in
      ap (openings_among t c p) n ∙ sym (ap (openings_among t c (suc p)) m))
      (λ (k : p ≤ length c).
      let n : suc (length c) - p ≡ suc (suc (length c) - suc p) = omega arith in
      ap (openings_among t c p) n ∙ cond-false (opens_here c p) (opening_here t c p ∷ openings_among t c (suc p) (suc (length c) - suc p)) (openings_among t c (suc p) (suc (length c) - suc p)) (opens_not c p h))
      (cases_lt (length c) p)

  -- none from p up to q
  pub track_skip : (p q : ℕ) → p ≤ q → NoneBetween c p q → track_openings t c p ≡ track_openings t c q
  track_skip p q l h = let e : p + (q - p) ≡ q = omega arith in go (q - p) p e h
    where
      go : (d p : ℕ) → p + d ≡ q → NoneBetween c p q → track_openings t c p ≡ track_openings t c q
      go zero p e h = let f : p ≡ q = omega arith in ap (track_openings t c) f
      go (suc d) p e h = let f : suc p + d ≡ q = omega arith in track_skip_one p (h p (omega arith) (omega arith)) ∙ go d (suc p) f (λ r a b. h r (omega arith) b)

  -- past the last place
  pub track-past : (p : ℕ) → length c < p → track_openings t c p ≡ []
  unfolding track_openings
  track-past p h = let n : suc (length c) - p ≡ 0 = omega arith in ap (openings_among t c p) n

  -- none from p on
  pub track-none : (p : ℕ) → ((q : ℕ) → p ≤ q → Opens c q → ⊥) → track_openings t c p ≡ []
  track-none p h = track_skip p (p + suc (length c)) (omega arith) (λ q a b. h q a) ∙ track-past (p + suc (length c)) (omega arith)

module _ (c : Tape) where
  -- an opening at the place itself
  pub from_open : (t p : ℕ) → Opens (track c t) p → openings_from c (place_on t p) ≡ opening_here t (track c t) p ∷ openings_from c (place_on t (suc p))
  unfolding openings_from
  from_open t p o = ap (λ (os : List OpeningAt). os ++ tracks_openings c (suc t) (length c - suc t)) (track_open t (track c t) p o)

  -- none from p up to q
  pub from_skip : (t p q : ℕ) → p ≤ q → NoneBetween (track c t) p q → openings_from c (place_on t p) ≡ openings_from c (place_on t q)
  unfolding openings_from
  from_skip t p q l h = ap (λ (os : List OpeningAt). os ++ tracks_openings c (suc t) (length c - suc t)) (track_skip t (track c t) p q l h)

  track_gone : (t : ℕ) → length c ≤ t → track c t ≡ []
  track_gone t h = get_or_past c t [] h

  pub no_opening_gone : (t : ℕ) → length c ≤ t → (p : ℕ) → Opens (track c t) p → ⊥
  no_opening_gone t h p o = omega (arith, o.0, opens_within (track c t) p o, ap length (track_gone t h))

  -- none from p on: the next track
  pub from_next : (t p : ℕ) → ((q : ℕ) → p ≤ q → Opens (track c t) q → ⊥) → openings_from c (place_on t p) ≡ openings_from c (place_on (suc t) 0)
  unfolding openings_from
  from_next t p h = ap (λ (os : List OpeningAt). os ++ tracks_openings c (suc t) (length c - suc t)) (track-none t (track c t) p h) ∙ ⊎_elim
      (λ (k : suc t < length c).
      let n : length c - suc t ≡ suc (length c - suc (suc t)) = omega arith in
      ap (tracks_openings c (suc t)) n)
      (λ (k : length c ≤ suc t).
      let n : length c - suc t ≡ 0 = omega arith in
      let m : length c - suc (suc t) ≡ 0 = omega arith in
      ap (tracks_openings c (suc t)) n ∙ sym (ap (λ (os : List OpeningAt). os ++ tracks_openings c (suc (suc t)) (length c - suc (suc t))) (track-none (suc t) (track c (suc t)) 0 (λ q a. no_opening_gone (suc t) k q)) ∙ ap (tracks_openings c (suc (suc t))) m))
      (cases_lt (suc t) (length c))

  -- past the last track
  pub from_past : (t p : ℕ) → length c ≤ t → openings_from c (place_on t p) ≡ []
  unfolding openings_from
  from_past t p h =
      let n : length c - suc t ≡ 0 = omega arith in
      ap (λ (os : List OpeningAt). os ++ tracks_openings c (suc t) (length c - suc t)) (track-none t (track c t) p (λ q a. no_opening_gone t h q)) ∙ ap (tracks_openings c (suc t)) n

-- the opening o stands in the list, and these are the ones after it
pub data GoesOn (o : OpeningAt) (rest : List OpeningAt) : List OpeningAt → Type 0 where
  right-here : GoesOn o rest (o ∷ rest)
  further : {x : OpeningAt} {os : List OpeningAt} → GoesOn o rest os → GoesOn o rest (x ∷ os)

-- fewer openings are left after it
pub goes_fewer : (o : OpeningAt) (rest os : List OpeningAt) → GoesOn o rest os → length rest < length os
goes_fewer o rest [] g = elim g [ ]
goes_fewer o rest (x ∷ os) right-here = omega arith
goes_fewer o rest (x ∷ os) (further g) = omega (arith, goes_fewer o rest os g)

-- it is the first, or stands further on
pub goes_cases : {P : Type 0} (o : OpeningAt) (rest : List OpeningAt) (x : OpeningAt) (os : List OpeningAt) → GoesOn o rest (x ∷ os) → (o ≡ x → rest ≡ os → P) → (GoesOn o rest os → P) → P
goes_cases o rest x os right-here p q = p refl refl
goes_cases o rest x os (further g) p q = q g

goes_append : (o : OpeningAt) (rest xs ys : List OpeningAt) → GoesOn o rest (xs ++ ys) → ((r : List OpeningAt) × GoesOn o r xs × (rest ≡ r ++ ys)) ⊎ GoesOn o rest ys
goes_append o rest [] ys g = inr g
goes_append o rest (x ∷ xs) ys right-here = inl (xs, right-here, refl)
goes_append o rest (x ∷ xs) ys (further g) = elim (goes_append o rest xs ys g) [ inl w ↦ inl (w.0, further w.1, w.2) | inr w ↦ inr w ]

-- an opening of a track, with the place of it and those after it
pub record OnTrack (t : ℕ) (c : List ℕ) (o : OpeningAt) (rest : List OpeningAt) : Type 0 where
  pub at : ℕ
  pub is : o ≡ opening_here t c at
  pub opens : Opens c at
  pub after : rest ≡ track_openings t c (suc at)

among_goes : (t : ℕ) (c : List ℕ) (p n : ℕ) (o : OpeningAt) (rest : List OpeningAt) → p + n ≡ suc (length c) → GoesOn o rest (openings_among t c p n) → OnTrack t c o rest
unfolding track_openings
among_goes t c p zero o rest e g = elim g [ ]
among_goes t c p (suc n) o rest e g = go (opens_here c p) refl g (among_goes t c (suc p) n o rest (omega arith))
  where
    go : (b : Bool) → opens_here c p ≡ b → GoesOn o rest (cond b (opening_here t c p ∷ openings_among t c (suc p) n) (openings_among t c (suc p) n)) → (GoesOn o rest (openings_among t c (suc p) n) → OnTrack t c o rest) → OnTrack t c o rest
    go true q k ih = goes_cases o rest (opening_here t c p) (openings_among t c (suc p) n) k
        (λ i r. let m : n ≡ suc (length c) - suc p = omega arith in record { at = p; is = i; opens = (opens_exactly c p).0 q; after = r ∙ ap (openings_among t c (suc p)) m })
        ih
    go false q k ih = ih k

track_goes : (t : ℕ) (c : List ℕ) (p : ℕ) (o : OpeningAt) (rest : List OpeningAt) → GoesOn o rest (track_openings t c p) → OnTrack t c o rest
unfolding track_openings
track_goes t c p o rest g = ⊎_elim
    (λ (k : length c < p). let n : suc (length c) - p ≡ 0 = omega arith in elim (subst (λ (m : ℕ). GoesOn o rest (openings_among t c p m)) n g) [ ])
    (λ (k : p ≤ length c). among_goes t c p (suc (length c) - p) o rest (omega arith) g)
    (cases_lt (length c) p)

-- an opening of a tape, with the place of it and those after it
pub record OnTape (c : Tape) (o : OpeningAt) (rest : List OpeningAt) : Type 0 where
  pub on : ℕ
  pub at : ℕ
  pub is : o ≡ opening_here on (track c on) at
  pub opens : Opens (track c on) at
  pub after : rest ≡ openings_from c (place_on on (suc at))

tracks_goes : (c : Tape) (t n : ℕ) (o : OpeningAt) (rest : List OpeningAt) → t + n ≡ length c → GoesOn o rest (tracks_openings c t n) → OnTape c o rest
unfolding openings_from
tracks_goes c t zero o rest e g = elim g [ ]
tracks_goes c t (suc n) o rest e g = elim (goes_append o rest (track_openings t (track c t) 0) (tracks_openings c (suc t) n) g) [
  | inl w ↦ one w.0 w.2 (track_goes t (track c t) 0 o w.0 w.1)
  | inr w ↦ tracks_goes c (suc t) n o rest (omega arith) w
]
  where
    one : (r : List OpeningAt) → rest ≡ r ++ tracks_openings c (suc t) n → OnTrack t (track c t) o r → OnTape c o rest
    one r q k = let m : n ≡ length c - suc t = omega arith in record { on = t; at = k.at; is = k.is; opens = k.opens; after = q ∙ (ap (λ (os : List OpeningAt). os ++ tracks_openings c (suc t) n) k.after ∙ ap (λ (j : ℕ). track_openings t (track c t) (suc k.at) ++ tracks_openings c (suc t) j) m) }

pub tape_goes : (c : Tape) (p : TapePlace) (o : OpeningAt) (rest : List OpeningAt) → GoesOn o rest (openings_from c p) → OnTape c o rest
unfolding openings_from
tape_goes c p o rest g = elim (goes_append o rest (track_openings p.on (track c p.on) p.at) (tracks_openings c (suc p.on) (length c - suc p.on)) g) [
  | inl w ↦
      let k = track_goes p.on (track c p.on) p.at o w.0 w.1 in
      record { on = p.on; at = k.at; is = k.is; opens = k.opens; after = w.2 ∙ ap (λ (os : List OpeningAt). os ++ tracks_openings c (suc p.on) (length c - suc p.on)) k.after }
  | inr w ↦ ⊎_elim
      (λ (k : length c < suc p.on). let n : length c - suc p.on ≡ 0 = omega arith in elim (subst (λ (m : ℕ). GoesOn o rest (tracks_openings c (suc p.on) m)) n w) [ ])
      (λ (k : suc p.on ≤ length c). tracks_goes c (suc p.on) (length c - suc p.on) o rest (omega arith) w)
      (cases_lt (length c) (suc p.on))
]
