-- What the calls that read an opening tell.
use Rattle.std.proofs.Common.{◌≡◌, ℕ, suc, Bool, true, false, ◌&&◌, List, [], ◌∷◌, Some, Ok, Err, Result, sym, refl, ap, ◌∙◌, subst, arith}
use Rattle.std.proofs.lemmas.Bool.{and_left}
use Rattle.std.specs.Result.{MatchResult}
use Rattle.std.proofs.lemmas.Grind.{common_steps}
use Rattle.qic24.specs.Copy.{Numbered, held}
use Rattle.qic24.specs.Decode.{mapped_ok}
use Rattle.qic24.specs.declared.item.Item.{Item}
use Rattle.qic24.specs.contracts.item.ItemPartialEq.TheImpl as derived
use Rattle.qic24.specs.Opening.{Opens}
use Rattle.qic24.specs.declared.fault.CopyFault.{CopyFault}
use Rattle.tape.specs.Tape.{Tape, track}
use Rattle.replay.specs.Answered.{first_place, opened}
use Rattle.replay.specs.Copies.{TapePlace, place_on, placed}
use Rattle.replay.specs.Replay.{UnsoundOpening}
use Rattle.replay.specs.Scan.{opens_here, read_here, OpeningAt, opening_here, openings_from, same_item, read_as, stands}
use Rattle.replay.proofs.TapeOpenings.{GoesOn, right-here, tape_goes}

-- an item was read, or an unsound copy
pub opened-item : (p : TapePlace) (i : Numbered) (x : Result Numbered CopyFault) → Ok i ≡ opened p x → x ≡ Ok i
opened-item p i (Ok j) e = cc
opened-item p i (Err f) e = let z : ◌≡◌ {A = ℕ} 0 1 = cc in absurd (omega arith)

pub opened-unsound : (p : TapePlace) (w : UnsoundOpening) (x : Result Numbered CopyFault) → Err w ≡ opened p x → (x ≡ Err w.cause) × (w ≡ record { place = p; cause = w.cause })
opened-unsound p w (Ok j) e = let z : ◌≡◌ {A = ℕ} 0 1 = cc in absurd (omega arith)
opened-unsound p w (Err f) e =
    let q : w ≡ record { place = p; cause = f } = cc in
    let k : f ≡ w.cause = sym (ap (λ (v : UnsoundOpening). v.cause) q) in
    (ap Err k, q ∙ ap (λ (y : CopyFault). record { place = p; cause = y }) k)

-- whether the item stands at the place goes by what was read there
module _ (c : Tape) (p : TapePlace) (i : Numbered) where
  pub not_standing : opens_here (track c p.on) p.at ≡ false → stands c (placed p i) ≡ false
  unfolding stands
  not_standing e = and_left (opens_here (track c p.on) p.at) (read_as i (read_here p.on (track c p.on) p.at)) e

  standing : opens_here (track c p.on) p.at ≡ true → (x : Result Numbered CopyFault) → read_here p.on (track c p.on) p.at ≡ x → stands c (placed p i) ≡ read_as i x
  unfolding stands
  standing e x q = ap (λ (b : Bool). b && read_as i (read_here p.on (track c p.on) p.at)) e ∙ ap (read_as i) q

  pub stands-read : opens_here (track c p.on) p.at ≡ true → (x : Result Item UnsoundOpening) (r : Bool) → mapped_ok held x ≡ opened p (read_here p.on (track c p.on) p.at) → MatchResult x (λ y. r ≡ same_item (held y) i) (λ _. r ≡ false) → r ≡ stands c (placed p i)
  stands-read e (Ok y) r q h = h ∙ sym (standing e (Ok (held y)) (opened-item p (held y) (read_here p.on (track c p.on) p.at) q))
  stands-read e (Err w) r q h = h ∙ sym (standing e (Err w.cause) (opened-unsound p w (read_here p.on (track c p.on) p.at) q).0)

-- items are the same where the derived equality says so
pub same_item-derived : (a b : Item) (r : Bool) → r ≡ derived.ghosts.eq a b → r ≡ same_item (held a) (held b)
same_item-derived a b r e = grind (arith, common_steps)

-- the first opening from a place on, with those after it
pub record FirstOf (c : Tape) (from p : TapePlace) : Type 0 where
  pub opens : Opens (track c p.on) p.at
  pub is : openings_from c from ≡ opening_here p.on (track c p.on) p.at ∷ openings_from c (place_on p.on (suc p.at))

pub first_of : (c : Tape) (from p : TapePlace) → Some p ≡ first_place (openings_from c from) → FirstOf c from p
first_of c from p e = go (openings_from c from) refl e
  where
    go : (os : List OpeningAt) → openings_from c from ≡ os → Some p ≡ first_place os → FirstOf c from p
    go [] q f = let z : ◌≡◌ {A = ℕ} 0 1 = cc in absurd (omega arith)
    go (o ∷ os) q f =
        let w = tape_goes c from o os (subst (GoesOn o os) (sym q) right-here) in
        let here : place_on w.on w.at ≡ p = sym (ap (λ (x : OpeningAt). x.place) w.is) ∙ (cc) in
        let is : openings_from c from ≡ opening_here w.on (track c w.on) w.at ∷ openings_from c (place_on w.on (suc w.at)) =
        q ∙ (ap (λ (x : OpeningAt). x ∷ os) w.is ∙ ap (λ (xs : List OpeningAt). opening_here w.on (track c w.on) w.at ∷ xs) w.after) in
        subst (FirstOf c from) here (record { opens = w.opens; is = is })
