-- The nibbles F, C and E hold no opening.
use Rattle.std.proofs.Common.{◌≡◌, ℕ, zero, suc, ◌-◌, ◌≤◌, List, [], ◌∷◌, ◌++◌, map, get_or, take, drop, Some, None, Option, refl, ap, subst, arith}
use Rattle.qic24.specs.Cells.{bits, nibble_codes, nibble_cells, cell}
use Rattle.qic24.specs.Opening.{opening, Opens, FirstOpening}
use Rattle.qic24.proofs.Openings.{opens_within}

abbrev pub f_c_e : List ℕ
f_c_e = 0 ∷ 1 ∷ 1 ∷ 1 ∷ 1 ∷ 1 ∷ 1 ∷ 1 ∷ 1 ∷ 0 ∷ 0 ∷ 1 ∷ 1 ∷ 1 ∷ 0 ∷ []

no_opening : (p : ℕ) → Opens f_c_e p → ⊥
no_opening p o = at (p - 14) (let w = opens_within f_c_e p o in let l = o.0 in omega arith) o.1
  where
    at : (k : ℕ) → k ≤ 1 → take 14 (drop k f_c_e) ≡ opening → ⊥
    at zero h e = let z : ◌≡◌ {A = ℕ} 0 1 = ap (λ (x : List ℕ). get_or x 0 0) e in omega arith
    at (suc zero) h e = let z : ◌≡◌ {A = ℕ} 0 1 = ap (λ (x : List ℕ). get_or x 8 0) e in omega arith
    at (suc (suc k)) h e = omega arith

pub none-there : FirstOpening (nibble_cells 0xF ++ (nibble_cells 0xC ++ nibble_cells 0xE)) 0 None
unfolding nibble_cells nibble_codes bits
none-there = λ p _ o. no_opening p o

pub none_found : (cs : List ℕ) (r : Option ℕ) → cs ≡ nibble_cells 0xF ++ (nibble_cells 0xC ++ nibble_cells 0xE) → FirstOpening (map cell cs) 0 r → r ≡ None
unfolding nibble_cells nibble_codes bits
none_found cs None e h = refl
none_found cs (Some p) e h = absurd (no_opening p (subst (λ (x : List ℕ). Opens (map cell x) p) e h.1))
