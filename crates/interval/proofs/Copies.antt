-- Copies of one value in a list.
use Rattle.std.proofs.Common.{◌≡◌, ℕ, zero, suc, replicate, get_or, refl}

-- at each place stands the value, and past the end too where it is the default
pub replicate_at : {A : Type 0} (n k : ℕ) (x d : A) → x ≡ d → get_or (replicate n x) k d ≡ d
replicate_at zero k x d e = refl
replicate_at (suc n) zero x d e = e
replicate_at (suc n) (suc k) x d e = replicate_at n k x d e
