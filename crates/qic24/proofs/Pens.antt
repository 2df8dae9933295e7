-- What a pen has written after two steps, and the room that is left.
use Rattle.std.proofs.Common.{◌≡◌, ℕ, ◌+◌, ◌≤◌, List, [], ◌++◌, length, drop, sym, ap, ◌∙◌, refl, zero-add, arith}
use Rattle.std.proofs.lemmas.List.{length-append}
use Rattle.qic24.specs.declared.pen.Pen.{Pen}
use Rattle.qic24.specs.Buffers.{overlaid}
use Rattle.qic24.specs.Pens.{HasRoom, Writes}
use Rattle.qic24.proofs.Overlay.{overlay_none, overlay_more, length-overlaid}

pub writes-none : (p : Pen) → Writes p p []
writes-none p = record { same = refl; place = omega arith; cells = sym (overlay_none p.out.now p.at) }

pub writes-more : (p q r : Pen) (xs ys : List ℕ) → p.at + length xs ≤ length p.out.now → Writes p q xs → Writes q r ys → Writes p r (xs ++ ys)
writes-more p q r xs ys h a b = record {
  same = b.same ∙ a.same;
  place = let l = length-append xs ys in let a' = a.place in let b' = b.place in omega arith;
  cells = overlay_more p.out.now q.out.now r.out.now p.at q.at xs ys a.cells a.place h b.cells;
}

pub room-after : (p q : Pen) (xs : List ℕ) (n : ℕ) → Writes p q xs → p.at + (length xs + n) ≤ length p.out.now → HasRoom q n
room-after p q xs n a h =
    let l : length q.out.now ≡ length p.out.now = ap (λ (z : List ℕ). length z) a.cells ∙ length-overlaid p.out.now p.at xs (omega arith) in
    let a' = a.place in
    omega arith

-- a pen that began at the front of the buffer
pub from-front : (p q : Pen) (o xs : List ℕ) → p.at ≡ 0 → p.out.now ≡ o → Writes p q xs → (q.at ≡ length xs) × (q.out.now ≡ xs ++ drop (length xs) o)
from-front p q o xs e f w = (
  let a = w.place in omega arith,
  w.cells ∙ ap (λ (z : List ℕ). overlaid z p.at xs) f ∙ ap (λ k. overlaid o k xs) e ∙ ap (λ k. xs ++ drop k o) (zero-add (length xs)),
)
