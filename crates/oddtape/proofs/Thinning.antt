-- Dropping every third one, cell by cell.
use Rattle.std.specs.Prelude.{◌≡◌, ℕ, ◌+◌, ◌<◌, cond, List, [], ◌∷◌, ◌++◌, ◌==◌, refl}
use Rattle.std.proofs.Common.{◌-◌, ◌≤◌, map, length, take, get_or, sym, ap, subst, inl, inr, ◌∙◌, append_assoc, arith, length-append}
use Rattle.std.proofs.lemmas.Bool.{cond_both, cases_lt}
use Rattle.std.proofs.lemmas.List.{map_more, length-map, length-take-le, get_or_append_left, get_or-append_right}
use Rattle.oddtape.specs.OddLaws.{length_thinned}
use Rattle.std.specs.List.{AllByRecursion}
use Rattle.tape.specs.Tape.{Cell, cell}
use Rattle.oddtape.specs.Odd.{kept, next, thinned, after}

pub thinned_push : (n : ℕ) (xs : List ℕ) (x : ℕ) → thinned n (xs ++ x ∷ []) ≡ thinned n xs ++ kept (after n xs) x ∷ []
thinned_push n [] x = refl
thinned_push n (y ∷ xs) x = ap (λ (r : List ℕ). kept n y ∷ r) (thinned_push (next n y) xs x)

pub after_push : (n : ℕ) (xs : List ℕ) (x : ℕ) → after n (xs ++ x ∷ []) ≡ next (after n xs) x
after_push n [] x = refl
after_push n (y ∷ xs) x = after_push (next n y) xs x

-- one cell more, sent on after the first i
module _ (n i p : ℕ) (sent : List ℕ) (h : i < length sent) (e : p ≡ after n (map cell (take i sent))) where
  more : map cell (take (i + 1) sent) ≡ map cell (take i sent) ++ cell (get_or sent i 0) ∷ []
  more = map_more cell sent i 0 h

  pub thinned_more : (k : ℕ) (old now new : List ℕ) → k ≡ kept p (cell (get_or sent i 0)) → now ≡ old ++ thinned n (map cell (take i sent))
      → new ≡ now ++ k ∷ [] → new ≡ old ++ thinned n (map cell (take (i + 1) sent))
  thinned_more k old now new f g is =
      is ∙ ap (λ (xs : List ℕ). xs ++ k ∷ []) g ∙ append_assoc old (thinned n (map cell (take i sent))) (k ∷ [])
      ∙ ap (λ (m : ℕ). old ++ (thinned n (map cell (take i sent)) ++ m ∷ [])) (f ∙ ap (λ (m : ℕ). kept m (cell (get_or sent i 0))) e)
      ∙ ap (λ (xs : List ℕ). old ++ xs) (sym (ap (thinned n) more ∙ thinned_push n (map cell (take i sent)) (cell (get_or sent i 0))))

  pub after_more : (q : ℕ) → q ≡ next p (cell (get_or sent i 0)) → q ≡ after n (map cell (take (i + 1) sent))
  after_more q f =
      f ∙ ap (λ (m : ℕ). next m (cell (get_or sent i 0))) e
      ∙ sym (ap (after n) more ∙ after_push n (map cell (take i sent)) (cell (get_or sent i 0)))

-- how many cells there are after the first i
pub length_after : (n i : ℕ) (sent old now : List ℕ) → i ≤ length sent → now ≡ old ++ thinned n (map cell (take i sent)) → length now ≡ length old + i
length_after n i sent old now h e =
    ap length e ∙ length-append old (thinned n (map cell (take i sent)))
    ∙ ap (λ (m : ℕ). length old + m) (length_thinned n (map cell (take i sent)) ∙ length-map (take i sent) cell ∙ length-take-le i sent h)

pub kept_cell : (n x : ℕ) → kept n x < 2
kept_cell n x = cond_both (x == 0) 0 (cond (n == 2) 0 1) (λ m. m < 2) (λ _. omega arith) (λ _. cond_both (n == 2) 0 1 (λ m. m < 2) (λ _. omega arith) (λ _. omega arith))

-- zeros and ones, and one more of them
pub binary_more : (xs ys : List ℕ) (k : ℕ) → ys ≡ xs ++ k ∷ [] → k < 2 → ((i : ℕ) → i < length xs → get_or xs i 0 < 2) → (i : ℕ) → i < length ys → get_or ys i 0 < 2
binary_more xs ys k e small all i h = subst (λ (zs : List ℕ). get_or zs i 0 < 2) (sym e) (elim (cases_lt i (length xs)) [
  | inl b ↦ subst (λ m. m < 2) (sym (get_or_append_left xs (k ∷ []) 0 i b)) (all i b)
  | inr b ↦
      let at : i - length xs ≡ 0 = omega (arith, ap length e, length-append xs (k ∷ [])) in
      subst (λ m. m < 2) (sym (get_or-append_right xs (k ∷ []) (length xs) i 0 refl b ∙ ap (λ (j : ℕ). get_or (k ∷ []) j 0) at)) small
])

pub thinned_binary : (n : ℕ) (xs : List ℕ) → AllByRecursion Cell (thinned n xs)
thinned_binary n [] = tt
thinned_binary n (x ∷ xs) = (kept_cell n x, thinned_binary (next n x) xs)
