-- A track that is read part by part.
use Rattle.std.proofs.Common.{◌≡◌, ℕ, ◌+◌, ◌<◌, ◌≤◌, List, fold, length, take, drop, Ok, Err, Result, MatchResult, sym, ap, ◌∙◌, ⊎_elim, arith, take-add}
use Rattle.std.proofs.lemmas.Bool.{cases_lt}
use Rattle.std.proofs.lemmas.List.Sums.{fold-append}
use Rattle.std.proofs.lemmas.Result.{MatchResult-at_ok}
use Rattle.tape.specs.Calls.{read_answer}
use Rattle.tape.specs.Tape.{Tape, track}
use Rattle.tape.specs.declared.refusal.Refusal.{Refusal}
use Rattle.tape.specs.declared.refusal.Refusal.TheVariants.{NoTrack, PastEnd}
use Rattle.tape.proofs.Replies.{accepted}
use Rattle.tape.proofs.Tapes.{track-none}

-- a read of cells that there are gives them
pub cells-read : (c : Tape) (t p n m : ℕ) (q : Result (Unit {0}) Refusal) (out old : List ℕ) → q ≡ read_answer c t p m → m ≡ n → 0 < n → p + n ≤ length (track c t)
    → MatchResult q (λ _. out ≡ take m (drop p (track c t))) (λ _. out ≡ old) → out ≡ take n (drop p (track c t))
cells-read c t p n m q out old e same some fits read =
    let there : t < length c = ⊎_elim (λ (h : t < length c). h) (λ (h : length c ≤ t). omega (arith, ap length (track-none c t h))) (cases_lt t (length c)) in
    let is : Ok tt ≡ read_answer c t p m = accepted t (length c) (p + m) (length (track c t)) (Ok tt) (Err PastEnd) (Err NoTrack) there (omega arith) in
    MatchResult-at_ok (λ _. out ≡ take m (drop p (track c t))) (λ _. out ≡ old) tt (e ∙ sym is) read ∙ ap (λ (k : ℕ). take k (drop p (track c t))) same

-- a hash goes on over the next part
pub part-hashed : (f : ℕ → ℕ → ℕ) (a h h' p n : ℕ) (xs part : List ℕ) → h ≡ fold f a (take p xs) → part ≡ take n (drop p xs) → h' ≡ fold f h part → h' ≡ fold f a (take (p + n) xs)
part-hashed f a h h' p n xs part before is after =
    after ∙ ap (λ (ys : List ℕ). fold f h ys) is ∙ ap (λ (x : ℕ). fold f x (take n (drop p xs))) before
    ∙ sym (fold-append f a (take p xs) (take n (drop p xs))) ∙ ap (fold f a) (sym (take-add p n xs))
