-- A rule of a table, or of every number below a limit, by one test that is computed over the whole of it.
use Rattle.std.proofs.Common.{◌≡◌, ℕ, zero, suc, ◌+◌, ◌<◌, Bool, true, eqb, List, [], ◌∷◌, length, get_or, sym, ◌∙◌, subst, le_of_suc-le-suc, not-suc-le-zero, add-zero, add-suc, suc-add, zero-add}
use Rattle.std.proofs.lemmas.Bool.{agree_below, agree_below_at, and_parts, eqb-true}
use Rattle.qic24.specs.Tables.{every, Table}

from : (f : ℕ → ℕ → Bool) (xs : List ℕ) (i : ℕ) → every f i xs ≡ true → (k : ℕ) → k < length xs → f (i + k) (get_or xs k 0) ≡ true
from f [] i t k h = absurd (not-suc-le-zero h)
from f (x ∷ xs) i t zero h = subst (λ (m : ℕ). f m x ≡ true) (sym (add-zero i)) (and_parts (f i x) (every f (suc i) xs) t).0
from f (x ∷ xs) i t (suc k) h =
    subst (λ (m : ℕ). f m (get_or xs k 0) ≡ true) (suc-add i k ∙ sym (add-suc i k))
    (from f xs (suc i) (and_parts (f i x) (every f (suc i) xs) t).1 k (le_of_suc-le-suc h))

-- each entry of the table is what the rule says
pub entry-is : {n : ℕ} {rule : ℕ → ℕ} {xs : List ℕ} → Table n rule xs → (k : ℕ) → k < n → get_or xs k 0 ≡ rule k
entry-is {n} {rule} {xs} t k h =
    eqb-true (get_or xs k 0) (rule k)
    (subst (λ (m : ℕ). eqb (get_or xs k 0) (rule m) ≡ true) (zero-add k)
    (from (λ k x. eqb x (rule k)) xs 0 t.right k (subst (λ m. k < m) (sym t.size) h)))

-- two functions give one number at each number below n
pub same_below : (f g : ℕ → ℕ) (n : ℕ) → agree_below (λ k. eqb (f k) (g k)) (λ _. true) n ≡ true → (k : ℕ) → k < n → f k ≡ g k
same_below f g n t k h = eqb-true (f k) (g k) (agree_below_at (λ k. eqb (f k) (g k)) (λ _. true) n k t h)
