-- One opening after the other, as next takes them.
use Rattle.std.proofs.Common.{◌≡◌, ℕ, suc, ◌+◌, ◌<◌, ◌≤◌, Bool, true, cond, eqb, ltb, List, [], ◌∷◌, length, Some, None, Ok, Err, Option, Result, sym, refl, ap, ◌∙◌, subst, arith}
use Rattle.std.proofs.lemmas.Bool.{cond-true, cond-false, lt-ltb, le-ltb, eq-eqb, ne_eqb}
use Rattle.qic24.specs.Copy.{Numbered}
use Rattle.qic24.specs.declared.fault.CopyFault.{CopyFault}
use Rattle.qic24.proofs.Openings.{opens_within}
use Rattle.tape.specs.Tape.{Tape, track}
use Rattle.replay.specs.Answered.{first_place, first_copy, unsound_before, opened}
use Rattle.replay.specs.Copies.{body_cells, OfCartridge, TapePlace, place_on, CopyAt, placed}
use Rattle.replay.specs.Replay.{UnsoundOpening}
use Rattle.replay.specs.Scan.{read_here, OpeningAt, openings_from}
use Rattle.replay.specs.Seeking.{FindResult, found_item, found_end, found_beyond, seek}
use Rattle.replay.proofs.Opened.{first_of, opened-item, opened-unsound}
use Rattle.replay.proofs.Replaying.{FoundAt, after-item}
use Rattle.replay.proofs.SoundCopies.{opening_of}
use Rattle.replay.proofs.TapeOpenings.{right-here, further, goes_fewer, tape_goes}

-- a sound copy first, by its number
module _ (n : ℕ) (b : Bool) (u : Option UnsoundOpening) (p : TapePlace) (i : Numbered) (os : List OpeningAt) where
  abbrev beyond : FindResult
  beyond = found_beyond (record { expected = n; found = p; unsound = u })

  seek_smaller : i.number < n → seek n b u (opening_of p (Ok i) ∷ os) ≡ seek n b u os
  seek_smaller h = cond-true (ltb i.number n) (seek n b u os) (cond (eqb i.number n) (found_item (placed p i)) (cond (eqb i.number (suc n)) (seek n true u os) beyond)) (lt-ltb i.number n h)

  not_smaller : n ≤ i.number → seek n b u (opening_of p (Ok i) ∷ os) ≡ cond (eqb i.number n) (found_item (placed p i)) (cond (eqb i.number (suc n)) (seek n true u os) beyond)
  not_smaller h = cond-false (ltb i.number n) (seek n b u os) (cond (eqb i.number n) (found_item (placed p i)) (cond (eqb i.number (suc n)) (seek n true u os) beyond)) (le-ltb i.number n h)

  seek-expected : i.number ≡ n → seek n b u (opening_of p (Ok i) ∷ os) ≡ found_item (placed p i)
  seek-expected e = not_smaller (omega arith) ∙ cond-true (eqb i.number n) (found_item (placed p i)) (cond (eqb i.number (suc n)) (seek n true u os) beyond) (eq-eqb i.number n e)

  later : n < i.number → seek n b u (opening_of p (Ok i) ∷ os) ≡ cond (eqb i.number (suc n)) (seek n true u os) beyond
  later h = not_smaller (omega arith) ∙ cond-false (eqb i.number n) (found_item (placed p i)) (cond (eqb i.number (suc n)) (seek n true u os) beyond) (ne_eqb i.number n (λ e. omega arith))

  seek-next : i.number ≡ suc n → seek n b u (opening_of p (Ok i) ∷ os) ≡ seek n true u os
  seek-next e = later (omega arith) ∙ cond-true (eqb i.number (suc n)) (seek n true u os) beyond (eq-eqb i.number (suc n) e)

  seek-beyond : suc n < i.number → seek n b u (opening_of p (Ok i) ∷ os) ≡ found_beyond (record { expected = n; found = p; unsound = u })
  seek-beyond h = later (omega arith) ∙ cond-false (eqb i.number (suc n)) (seek n true u os) beyond (ne_eqb i.number (suc n) (λ e. omega arith))

-- the first opening from a place on stands at p
module _ (c : Tape) (from p : TapePlace) (e : Some p ≡ first_place (openings_from c from)) where
  pub opening_within : p.at ≤ length (track c p.on)
  opening_within = opens_within (track c p.on) p.at (first_of c from p e).opens

  first_read : (x : Result Numbered CopyFault) → read_here p.on (track c p.on) p.at ≡ x → openings_from c from ≡ opening_of p x ∷ openings_from c (place_on p.on (suc p.at))
  first_read x q = (first_of c from p e).is ∙ ap (λ (y : Result Numbered CopyFault). opening_of p y ∷ openings_from c (place_on p.on (suc p.at))) q

  -- a sound copy was read there
  module _ (i : Numbered) (q : Ok i ≡ opened p (read_here p.on (track c p.on) p.at)) where
    sound-first : openings_from c from ≡ opening_of p (Ok i) ∷ openings_from c (place_on p.on (suc p.at))
    sound-first = first_read (Ok i) (opened-item p i (read_here p.on (track c p.on) p.at) q)

    pub sound-copy : Some (placed p i) ≡ first_copy (openings_from c from)
    sound-copy = sym (ap first_copy sound-first)

    pub sound-noted : (u : Option UnsoundOpening) → u ≡ unsound_before u (openings_from c from)
    sound-noted u = sym (ap (unsound_before u) sound-first)

  -- an unsound one: it goes on at the very next cell
  module _ (v : UnsoundOpening) (q : Err v ≡ opened p (read_here p.on (track c p.on) p.at)) where
    unsound-first : openings_from c from ≡ opening_of p (Err v.cause) ∷ openings_from c (place_on p.on (p.at + 1))
    unsound-first =
        let n : suc p.at ≡ p.at + 1 = omega arith in
        first_read (Err v.cause) (opened-unsound p v (read_here p.on (track c p.on) p.at) q).0 ∙ ap (λ (k : ℕ). opening_of p (Err v.cause) ∷ openings_from c (place_on p.on k)) n

    pub unsound_fewer : length (openings_from c (place_on p.on (p.at + 1))) < length (openings_from c from)
    unsound_fewer = omega (arith, ap length unsound-first)

    pub unsound-copy : first_copy (openings_from c (place_on p.on (p.at + 1))) ≡ first_copy (openings_from c from)
    unsound-copy = sym (ap first_copy unsound-first)

    pub unsound-noted : (u : Option UnsoundOpening) → unsound_before (Some v) (openings_from c (place_on p.on (p.at + 1))) ≡ unsound_before u (openings_from c from)
    unsound-noted u =
        ap (λ (x : UnsoundOpening). unsound_before (Some x) (openings_from c (place_on p.on (p.at + 1)))) (opened-unsound p v (read_here p.on (track c p.on) p.at) q).1 ∙ sym (ap (unsound_before u) unsound-first)

-- the first sound copy among openings: to look at all of them is to look at it, and at those after it
record FirstSound (os : List OpeningAt) (f : CopyAt) : Type 0 where
  there : FoundAt os f
  seeks : (n : ℕ) (b : Bool) (u : Option UnsoundOpening) → seek n b u os ≡ seek n b (unsound_before u os) (opening_of f.place (Ok f.item) ∷ there.rest)

first_sound : (os : List OpeningAt) (f : CopyAt) → Some f ≡ first_copy os → FirstSound os f
first_sound [] f e = let z : ◌≡◌ {A = ℕ} 0 1 = cc in absurd (omega arith)
first_sound (o ∷ os) f e = go o.reads e (first_sound os f)
  where
    go : (x : Result Numbered CopyFault) → Some f ≡ first_copy (opening_of o.place x ∷ os) → (Some f ≡ first_copy os → FirstSound os f) → FirstSound (opening_of o.place x ∷ os) f
    go (Ok i) q ih =
        let is : placed o.place i ≡ f = cc in
        subst (FirstSound (opening_of o.place (Ok i) ∷ os)) is (record { there = record { rest = os; goes = right-here }; seeks = λ n b u. refl })
    go (Err v) q ih =
        let w = ih q in
        record { there = record { rest = w.there.rest; goes = further w.there.goes }; seeks = λ n b u. w.seeks n b (Some (record { place = o.place; cause = v })) }

-- there is none
pub none_sound : (os : List OpeningAt) → None ≡ first_copy os → (n : ℕ) (b : Bool) (u : Option UnsoundOpening) → found_end b ≡ seek n b u os
none_sound [] e n b u = refl
none_sound (o ∷ os) e n b u = go o.reads e (λ q v. none_sound os q n b v)
  where
    go : (x : Result Numbered CopyFault) → None ≡ first_copy (opening_of o.place x ∷ os) → (None ≡ first_copy os → (v : Option UnsoundOpening) → found_end b ≡ seek n b v os) → found_end b ≡ seek n b u (opening_of o.place x ∷ os)
    go (Ok i) q ih = let z : ◌≡◌ {A = ℕ} 0 1 = cc in absurd (omega arith)
    go (Err v) q ih = ih q (Some (record { place = o.place; cause = v }))

-- the first sound copy from a place on stands at p
module _ (c : Tape) (h : OfCartridge c) (from p : TapePlace) (i : Numbered) (e : Some (placed p i) ≡ first_copy (openings_from c from)) where
  first : FirstSound (openings_from c from) (placed p i)
  first = first_sound (openings_from c from) (placed p i) e

  abbrev past : List OpeningAt
  past = openings_from c (place_on p.on (p.at + body_cells))

  is-past : first.there.rest ≡ past
  is-past = after-item c h from (placed p i) first.there

  pub copy_within : p.at ≤ length (track c p.on)
  copy_within =
      let w = tape_goes c from (opening_of p (Ok i)) first.there.rest first.there.goes in
      let is : place_on w.on w.at ≡ p = sym (ap (λ (x : OpeningAt). x.place) w.is) in
      subst (λ (q : TapePlace). q.at ≤ length (track c q.on)) is (opens_within (track c w.on) w.at w.opens)

  pub copy_fewer : length past < length (openings_from c from)
  copy_fewer = omega (arith, goes_fewer (opening_of p (Ok i)) first.there.rest (openings_from c from) first.there.goes, ap length is-past)

  -- v is the last unsound opening before it
  module _ (n : ℕ) (b : Bool) (u v : Option UnsoundOpening) (q : v ≡ unsound_before u (openings_from c from)) where
    at_it : seek n b u (openings_from c from) ≡ seek n b v (opening_of p (Ok i) ∷ past)
    at_it =
        first.seeks n b u ∙ (ap (λ (x : Option UnsoundOpening). seek n b x (opening_of p (Ok i) ∷ first.there.rest)) (sym q) ∙ ap (λ (os : List OpeningAt). seek n b v (opening_of p (Ok i) ∷ os)) is-past)

    pub copy_smaller : i.number < n → seek n b v past ≡ seek n b u (openings_from c from)
    copy_smaller l = sym (at_it ∙ seek_smaller n b v p i past l)

    pub copy-expected : i.number ≡ n → found_item (placed p i) ≡ seek n b u (openings_from c from)
    copy-expected l = sym (at_it ∙ seek-expected n b v p i past l)

    pub copy-next : i.number ≡ suc n → seek n true v past ≡ seek n b u (openings_from c from)
    copy-next l = sym (at_it ∙ seek-next n b v p i past l)

    pub copy-beyond : suc n < i.number → found_beyond (record { expected = n; found = p; unsound = v }) ≡ seek n b u (openings_from c from)
    copy-beyond l = sym (at_it ∙ seek-beyond n b v p i past l)
