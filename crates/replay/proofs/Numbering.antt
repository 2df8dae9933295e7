-- The items of a replay are numbered one after the other from 1.
use Rattle.std.proofs.Common.{◌≡◌, ℕ, suc, ◌+◌, eqb, ltb, List, [], ◌∷◌, ◌++◌, length, arith, length-append}
use Rattle.std.proofs.lemmas.Bool.{eqb-true, cond_both}
use Rattle.qic24.specs.Cells.{fold}
use Rattle.qic24.specs.Copy.{Numbered}
use Rattle.replay.specs.Copies.{CopyAt}
use Rattle.replay.specs.Replay.{ReplayState, expecting, not_located, advance, NumberedFrom}

-- what was handed out is numbered from 1 on
abbrev pub Counted : ReplayState → Type 0
Counted (expecting out n b) = NumberedFrom 1 out × (n ≡ suc (length out))
Counted (not_located out n p) = NumberedFrom 1 out × (n ≡ suc (length out))

numbered_one : (n : ℕ) (is : List Numbered) (i : Numbered) → NumberedFrom n is → i.number ≡ n + length is → NumberedFrom n (is ++ (i ∷ []))
numbered_one n [] i p e = (omega arith, tt)
numbered_one n (x ∷ is) i p e = (p.0, numbered_one (suc n) is i p.1 (omega arith))

advance-counted : (r : ReplayState) (f : CopyAt) → Counted r → Counted (advance r f)
advance-counted (not_located out n p) f h = h
advance-counted (expecting out n b) f h =
    cond_both (ltb f.item.number n) _ _ Counted (λ _. h)
    (λ _. cond_both (eqb f.item.number n) _ _ Counted
    (λ e. (numbered_one 1 out f.item h.0 (omega (arith, h.1, eqb-true f.item.number n e)), omega (arith, h.1, length-append out (f.item ∷ []))))
    (λ _. cond_both (eqb f.item.number (suc n)) _ _ Counted (λ _. h) (λ _. h)))

pub counted : (r : ReplayState) (fs : List CopyAt) → Counted r → Counted (fold advance r fs)
counted r [] h = h
counted r (f ∷ fs) h = counted (advance r f) fs (advance-counted r f h)
