-- The openings from a place on are all that the tape has there, in tape order.
use Rattle.std.proofs.Common.{◌≡◌, ℕ, zero, suc, ◌+◌, ◌-◌, ◌<◌, ◌≤◌, Bool, true, false, cond, List, ◌∷◌, length, sym, refl, subst, inl, inr, ⊎_elim, arith}
use Rattle.std.proofs.lemmas.Bool.{cases_lt, cases_eq}
use Rattle.qic24.specs.Opening.{Opens}
use Rattle.qic24.proofs.Openings.{opens_within}
use Rattle.tape.specs.Tape.{Tape, track}
use Rattle.replay.specs.Copies.{TapePlace, place_on, Before, AtOrAfter, In, here, there}
use Rattle.replay.specs.Scan.{opens_here, read_here, OpeningAt, opening_here, openings_among, track_openings, tracks_openings, openings_from}
use Rattle.replay.proofs.Orders.{split, in_append, in_left, in_right}
use Rattle.replay.proofs.TapeOpenings.{opens_exactly, no_opening_gone, GoesOn, tape_goes}

-- an opening of a track at the place p or later
pub record OnFrom (t : ℕ) (c : List ℕ) (p : ℕ) (o : OpeningAt) : Type 0 where
  pub at : ℕ
  pub is : o ≡ opening_here t c at
  pub opens : Opens c at
  pub past : p ≤ at

module _ (t : ℕ) (c : List ℕ) where
  among_each : (p n : ℕ) (o : OpeningAt) → In o (openings_among t c p n) → OnFrom t c p o
  among_each p zero o i = elim i [ ]
  among_each p (suc n) o i = go (opens_here c p) refl i (λ j. more (among_each (suc p) n o j))
    where
      more : OnFrom t c (suc p) o → OnFrom t c p o
      more w = record { at = w.at; is = w.is; opens = w.opens; past = omega (arith, w.past) }

      go : (v : Bool) → opens_here c p ≡ v → In o (cond v (opening_here t c p ∷ openings_among t c (suc p) n) (openings_among t c (suc p) n)) → (In o (openings_among t c (suc p) n) → OnFrom t c p o) → OnFrom t c p o
      go true e j ih = split o (opening_here t c p) (openings_among t c (suc p) n) j (λ q. record { at = p; is = q; opens = (opens_exactly c p).0 e; past = omega arith }) ih
      go false e j ih = ih j

  among_all : (p n q : ℕ) → p ≤ q → q < p + n → Opens c q → In (opening_here t c q) (openings_among t c p n)
  among_all p zero q l m o = absurd (omega arith)
  among_all p (suc n) q l m o = ⊎_elim equal (λ d. go (opens_here c p) (among_all (suc p) n q (later d) (omega arith) o)) (cases_eq p q)
    where
      later : (p ≡ q → ⊥) → suc p ≤ q
      later d = grind arith

      equal : p ≡ q → In (opening_here t c q) (openings_among t c p (suc n))
      equal e =
          subst (λ (z : ℕ). In (opening_here t c z) (openings_among t c p (suc n))) e
          (subst (λ (v : Bool). In (opening_here t c p) (cond v (opening_here t c p ∷ openings_among t c (suc p) n) (openings_among t c (suc p) n))) (sym ((opens_exactly c p).1 (subst (Opens c) (sym e) o))) here)

      go : (v : Bool) → In (opening_here t c q) (openings_among t c (suc p) n) → In (opening_here t c q) (cond v (opening_here t c p ∷ openings_among t c (suc p) n) (openings_among t c (suc p) n))
      go true j = there j
      go false j = j

  track-each : (p : ℕ) (o : OpeningAt) → In o (track_openings t c p) → OnFrom t c p o
  unfolding track_openings
  track-each p o i = among_each p (suc (length c) - p) o i

  track-all : (p q : ℕ) → p ≤ q → Opens c q → In (opening_here t c q) (track_openings t c p)
  unfolding track_openings
  track-all p q l o = among_all p (suc (length c) - p) q l (omega (arith, opens_within c q o)) o

-- an opening of a tape at the place p or later, and what stands after it
pub record Listed (c : Tape) (p : TapePlace) (o : OpeningAt) : Type 0 where
  pub opens : Opens (track c o.place.on) o.place.at
  pub reads : o.reads ≡ read_here o.place.on (track c o.place.on) o.place.at
  pub past : AtOrAfter p o.place

module _ (c : Tape) where
  listed-on : (t q : ℕ) (p : TapePlace) (o : OpeningAt) → o ≡ opening_here t (track c t) q → Opens (track c t) q → AtOrAfter p (place_on t q) → Listed c p o
  listed-on t q p o e h l = subst (Listed c p) (sym e) (record { opens = h; reads = refl; past = l })

  tracks-each : (t n : ℕ) (p : TapePlace) (o : OpeningAt) → p.on < t → In o (tracks_openings c t n) → Listed c p o
  tracks-each t zero p o h i = elim i [ ]
  tracks-each t (suc n) p o h i = in_append o (track_openings t (track c t) 0) (tracks_openings c (suc t) n) i
      (λ j. let w = track-each t (track c t) 0 o j in listed-on t w.at p o w.is w.opens (inl h))
      (λ j. tracks-each (suc t) n p o (omega arith) j)

  tracks-all : (t n u q : ℕ) → t ≤ u → u < t + n → Opens (track c u) q → In (opening_here u (track c u) q) (tracks_openings c t n)
  tracks-all t zero u q l m o = absurd (omega arith)
  tracks-all t (suc n) u q l m o = ⊎_elim
      (λ (e : t ≡ u). in_left (opening_here u (track c u) q) (track_openings t (track c t) 0) (tracks_openings c (suc t) n)
      (subst (λ (v : ℕ). In (opening_here u (track c u) q) (track_openings v (track c v) 0)) (sym e) (track-all u (track c u) 0 q (omega arith) o)))
      (λ (d : t ≡ u → ⊥). in_right (opening_here u (track c u) q) (track_openings t (track c t) 0) (tracks_openings c (suc t) n) (tracks-all (suc t) n u q (later d) (omega arith) o))
      (cases_eq t u)
    where
      later : (t ≡ u → ⊥) → suc t ≤ u
      later d = grind arith

  pub listed-each : (p : TapePlace) (o : OpeningAt) → In o (openings_from c p) → Listed c p o
  unfolding openings_from
  listed-each p o i = in_append o (track_openings p.on (track c p.on) p.at) (tracks_openings c (suc p.on) (length c - suc p.on)) i
      (λ j. let w = track-each p.on (track c p.on) p.at o j in listed-on p.on w.at p o w.is w.opens (inr (refl, w.past)))
      (λ j. tracks-each (suc p.on) (length c - suc p.on) p o (omega arith) j)

  pub listed-all : (p : TapePlace) (t q : ℕ) → Opens (track c t) q → AtOrAfter p (place_on t q) → In (opening_here t (track c t) q) (openings_from c p)
  unfolding openings_from
  listed-all p t q o (inl l) =
      in_right (opening_here t (track c t) q) (track_openings p.on (track c p.on) p.at) (tracks_openings c (suc p.on) (length c - suc p.on))
      (tracks-all (suc p.on) (length c - suc p.on) t q l (omega (arith, there-is)) o)
    where
      there-is : t < length c
      there-is = ⊎_elim (λ h. h) (λ h. absurd (no_opening_gone c t h q o)) (cases_lt t (length c))
  listed-all p t q o (inr w) =
      in_left (opening_here t (track c t) q) (track_openings p.on (track c p.on) p.at) (tracks_openings c (suc p.on) (length c - suc p.on))
      (subst (λ (u : ℕ). In (opening_here t (track c t) q) (track_openings u (track c u) p.at)) (sym w.0) (track-all t (track c t) p.at q w.1 o))

-- each stands before those after it
abbrev pub Ordered : List OpeningAt → Type 0
Ordered os = (o : OpeningAt) (rest : List OpeningAt) → GoesOn o rest os → (x : OpeningAt) → In x rest → Before o.place x.place

pub listed-ordered : (c : Tape) (p : TapePlace) → Ordered (openings_from c p)
listed-ordered c p o rest g x i =
    let w = tape_goes c p o rest g in
    let l = listed-each c (place_on w.on (suc w.at)) x (subst (In x) w.after i) in
    subst (λ (z : OpeningAt). Before z.place x.place) (sym w.is) (elim l.past [ inl a ↦ inl a | inr a ↦ inr (a.0, omega (arith, a.1)) ])
