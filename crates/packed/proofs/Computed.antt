-- A rule of every number below a limit, by one test that is computed over all of them.
use Rattle.std.specs.Prelude.{◌≡◌, ℕ, ◌<◌, true, nat_eq}
use Rattle.std.proofs.lemmas.Bool.{agree_below, agree_below_at, eqb-true}

pub same_below : (f g : ℕ → ℕ) (n : ℕ) → agree_below (λ k. nat_eq (f k) (g k)) (λ _. true) n ≡ true → (k : ℕ) → k < n → f k ≡ g k
same_below f g n t k h = eqb-true (f k) (g k) (agree_below_at (λ k. nat_eq (f k) (g k)) (λ _. true) n k t h)

-- the same of two numbers
pub same_below_both : (f g : ℕ → ℕ → ℕ) (m n : ℕ) → agree_below (λ j. agree_below (λ k. nat_eq (f j k) (g j k)) (λ _. true) n) (λ _. true) m ≡ true
    → (j k : ℕ) → j < m → k < n → f j k ≡ g j k
same_below_both f g m n t j k hj hk = same_below (f j) (g j) n (agree_below_at (λ j. agree_below (λ k. nat_eq (f j k) (g j k)) (λ _. true) n) (λ _. true) m j t hj) k hk
