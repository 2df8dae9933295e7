-- A tape that grows keeps what stands on it.
use Rattle.std.proofs.Common.{◌≡◌, ℕ, ◌+◌, ◌-◌, ◌≤◌, ◌↔◌, List, [], ◌∷◌, ◌++◌, length, take, drop, sym, refl, ap, ◌∙◌, subst, inl, inr, append_assoc, append-nil, arith, length-append, length-drop}
use lib.Seq.{take-append-le, drop-append-le}
use Rattle.std.specs.List.{AllByRecursion}
use Rattle.std.proofs.lemmas.Bool.{cases_eq}
use Rattle.std.proofs.ByRecursion.{All-take}
use Rattle.std.proofs.lemmas.List.{take_at}
use Rattle.qic24.specs.Opening.{Opens}
use Rattle.tape.specs.Tape.{Tape, track, Cell, Run, Longer, Grown}
use Rattle.replay.specs.Copies.{body_cells, OfCartridge, CopyAt, Sound, Whole}
use Rattle.replay.specs.Laws.{SoundForGood}

-- as many tracks, and on each the cells that were there, with others after them
pub record Extends (c e : Tape) : Type 0 where
  pub tracks : length e ≡ length c
  pub added : ℕ → List ℕ
  pub is : (t : ℕ) → track e t ≡ track c t ++ added t

pub extends_refl : (c : Tape) → Extends c c
extends_refl c = record { tracks = refl; added = λ t. []; is = λ t. sym (append-nil (track c t)) }

pub extends_trans : (a b c : Tape) → Extends a b → Extends b c → Extends a c
extends_trans a b c p q = record {
  tracks = q.tracks ∙ p.tracks;
  added = λ t. p.added t ++ q.added t;
  is = λ t. q.is t ∙ (ap (λ (x : List ℕ). x ++ q.added t) (p.is t) ∙ append_assoc (track a t) (p.added t) (q.added t));
}

longer_extends : (r : Run) (a b : Tape) → Longer r a b → Extends a b
longer_extends r a b l = record { tracks = l.tracks; added = λ t. (one t).0; is = λ t. (one t).1 }
  where
    one : (t : ℕ) → (x : List ℕ) × (track b t ≡ track a t ++ x)
    one t = elim (cases_eq t r.on) [ inl e ↦ (l.added, subst (λ (u : ℕ). track b u ≡ track a u ++ l.added) (sym e) l.is) | inr d ↦ ([], l.others t d ∙ sym (append-nil (track a t))) ]

pub grown_extends : (rs : List Run) (a b : Tape) → Grown a rs b → Extends a b
grown_extends [] a b e = subst (λ (z : Tape). Extends a z) (sym e) (extends_refl a)
grown_extends (r ∷ rs) a b (m, l, g) = extends_trans a m b (longer_extends r a m l) (grown_extends rs m b g)

-- a tape that grew into a cartridge's is itself one
pub of_cartridge_before : (a b : Tape) → Extends a b → OfCartridge b → OfCartridge a
of_cartridge_before a b e h = record {
  few = omega (arith, h.few, e.tracks);
  binary = λ t. subst (AllByRecursion Cell) (take_at (track a t) (e.added t) (length (track a t)) refl) (All-take Cell (length (track a t)) (track a t ++ e.added t) (subst (AllByRecursion Cell) (e.is t) (h.binary t)));
}

pub extends_length : (a b : Tape) (t : ℕ) → Extends a b → length (track a t) ≤ length (track b t)
extends_length a b t e = omega (arith, ap length (e.is t), length-append (track a t) (e.added t))

pub whole-more : (a b : Tape) (f : CopyAt) → Extends a b → Whole a f → Whole b f
whole-more a b f e w = omega (arith, extends_length a b f.place.on e)

part : (n p : ℕ) (x y : List ℕ) → p + n ≤ length x → take n (drop p (x ++ y)) ≡ take n (drop p x)
part n p x y h =
    ap (take n) (drop-append-le p x y (omega arith)) ∙ take-append-le n (drop p x) y (omega (arith, length-drop p x))

opens_same : (p : ℕ) (x y : List ℕ) → p ≤ length x → Opens (x ++ y) p ↔ Opens x p
opens_same p x y h = (
  λ o. (o.0, sym (part 14 (p - 14) x y (omega (arith, o.0))) ∙ o.1),
  λ o. (o.0, part 14 (p - 14) x y (omega (arith, o.0)) ∙ o.1),
)

-- it is sound or not for good
pub sound_same : (a b : Tape) (f : CopyAt) → Extends a b → Whole a f → Sound b f ↔ Sound a f
sound_same a b f e w =
    let x = track a f.place.on in
    let y = e.added f.place.on in
    let is = e.is f.place.on in
    let o = opens_same f.place.at x y (omega arith) in
    let r = part body_cells f.place.at x y w in (
      λ s. record { opens = o.0 (subst (λ (z : List ℕ). Opens z f.place.at) is s.opens); proper = s.proper; reads = sym r ∙ (ap (λ (z : List ℕ). take body_cells (drop f.place.at z)) (sym is) ∙ s.reads) },
      λ s. record { opens = subst (λ (z : List ℕ). Opens z f.place.at) (sym is) (o.1 s.opens); proper = s.proper; reads = ap (λ (z : List ℕ). take body_cells (drop f.place.at z)) is ∙ (r ∙ s.reads) },
    )

pub sound_for_good : SoundForGood
sound_for_good c e rs g f w = sound_same c e f (grown_extends rs c e g) w
