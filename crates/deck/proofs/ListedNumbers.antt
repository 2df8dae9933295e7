-- A list of items whose numbers are below another, and taking out the one of that number.
use Rattle.std.proofs.Common.{◌≡◌, ℕ, ◌<◌, ◌≤◌, List, [], ◌∷◌, ◌++◌, refl, ap, ◌∙◌, arith}
use Rattle.std.proofs.lemmas.Bool.{eq-eqb, ne_eqb, cond-true, cond-false}
use Rattle.qic24.specs.Copy.{Numbered}
use Rattle.deck.specs.Calls.{without}

-- every number of a list is below n
abbrev pub Below : ℕ → List Numbered → Type 0
Below n [] = Unit {0}
Below n (i ∷ is) = (i.number < n) × Below n is

pub below_one : (n : ℕ) (is : List Numbered) (i : Numbered) → Below n is → i.number < n → Below n (is ++ (i ∷ []))
below_one n [] i b h = (h, tt)
below_one n (x ∷ is) i b h = (b.0, below_one n is i b.1 h)

pub below_more : (m n : ℕ) (is : List Numbered) → m ≤ n → Below m is → Below n is
below_more m n [] h b = tt
below_more m n (x ∷ is) h b = (omega (arith, b.0), below_more m n is h b.1)

-- the item of a number that the others are below is taken out, and they stay
pub taken_out : (is : List Numbered) (i : Numbered) → Below i.number is → without i.number (is ++ (i ∷ [])) ≡ is
taken_out [] i b = cond-true _ _ _ (eq-eqb i.number i.number refl)
taken_out (x ∷ is) i b = cond-false _ _ _ (ne_eqb x.number i.number (λ e. omega (arith, b.0))) ∙ ap (λ (r : List Numbered). x ∷ r) (taken_out is i b.1)

pub not_there : (n : ℕ) (is : List Numbered) → Below n is → without n is ≡ is
not_there n [] b = refl
not_there n (x ∷ is) b = cond-false _ _ _ (ne_eqb x.number n (λ e. omega (arith, b.0))) ∙ ap (λ (r : List Numbered). x ∷ r) (not_there n is b.1)
