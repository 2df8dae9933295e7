-- Looking for openings in one part of a track after the other.
use Rattle.std.proofs.Common.{◌≡◌, ℕ, ◌+◌, ◌-◌, ◌<◌, ◌≤◌, List, map, length, take, drop, is_some, Some, None, Option, sym, ap, ◌∙◌, subst, ⊎_elim, arith, length-take, MatchOption}
use Rattle.std.specs.List.{AllByRecursion}
use Rattle.std.proofs.lemmas.Bool.{cases_lt}
use Rattle.qic24.specs.Opening.{Opens, NoneBetween, FirstOpening}
use Rattle.qic24.proofs.Openings.{opens_within}
use Rattle.tape.specs.Tape.{Cell, cell}
use Rattle.replay.specs.Scan.{opens_here}
use Rattle.replay.proofs.Parts.{part_cells, part_opens, opens_part}
use Rattle.replay.proofs.TapeOpenings.{opens_exactly, opens_not}

-- the first opening in the n cells from the place s of a track on, counted from there
abbrev pub PartOpening : List ℕ → ℕ → ℕ → Option ℕ → Type 0
PartOpening c s n r = MatchOption r ((q : ℕ) → 14 ≤ q → q ≤ n → Opens c (s + q) → ⊥) (λ q. (14 ≤ q) × (q ≤ n) × Opens c (s + q) × ((k : ℕ) → 14 ≤ k → k < q → Opens c (s + k) → ⊥))

-- what a search in the cells that were read tells
pub found_in_part : (c bs : List ℕ) (s m n : ℕ) (r : Option ℕ) → AllByRecursion Cell c → m ≡ n → bs ≡ take m (drop s c) → FirstOpening (map cell bs) 0 r → PartOpening c s n r
found_in_part c bs s m n r h l e f =
    go r (subst (λ (z : List ℕ). FirstOpening z 0 r) (ap (map cell) (e ∙ ap (λ (k : ℕ). take k (drop s c)) l) ∙ part_cells n s c h) f)
  where
    go : (r : Option ℕ) → FirstOpening (take n (drop s c)) 0 r → PartOpening c s n r
    go None f = λ q a b o. f q (omega arith) (opens_part c s n q b a o)
    go (Some q) f =
        let l : q ≤ n = omega (arith, opens_within (take n (drop s c)) q f.1, length-take n (drop s c)) in
        (f.1.0, l, part_opens c s n q l f.1, λ k a b o. f.2 k (omega arith) b (opens_part c s n k (omega arith) a o))

-- in the fourteen cells before a place
pub opens_tested : (c : List ℕ) (s p : ℕ) (r : Option ℕ) → s + 14 ≡ p → PartOpening c s 14 r → is_some r ≡ opens_here c p
opens_tested c s p None q h = sym (opens_not c p (λ o. h 14 (omega arith) (omega arith) (subst (Opens c) (sym q) o)))
opens_tested c s p (Some k) q h =
    let l = h.0 in
    let m = h.1 in
    let f : s + k ≡ p = omega arith in
    sym ((opens_exactly c p).1 (subst (Opens c) f h.2))

-- none stands from `from` up to fourteen cells after s
module _ (c : List ℕ) (from s : ℕ) (h : NoneBetween c from (s + 14)) where
  pub window_found : (q : ℕ) → from ≤ s + 14 → PartOpening c s 512 (Some q) → FirstOpening c from (Some (s + q))
  window_found q l w =
      let a = w.0 in
      (omega arith, w.2, λ k b d o. ⊎_elim (λ (m : k < s + 14). h k b m o) (λ (m : s + 14 ≤ k). let e : k ≡ s + (k - s) = omega arith in w.3 (k - s) (omega arith) (omega arith) (subst (Opens c) e o)) (cases_lt k (s + 14)))

  pub window_none : PartOpening c s 512 None → NoneBetween c from (s + 499 + 14)
  window_none w k b d o = ⊎_elim (λ (m : k < s + 14). h k b m o)
      (λ (m : s + 14 ≤ k). let i : k ≡ s + (k - s) = omega arith in w (k - s) (omega arith) (omega arith) (subst (Opens c) i o))
      (cases_lt k (s + 14))

  pub window_end : length c ≤ s → (q : ℕ) → from ≤ q → Opens c q → ⊥
  window_end l q b o = h q b (omega (arith, opens_within c q o)) o
