-- What the answers of a cartridge's calls tell.
use Rattle.std.proofs.Common.{◌≡◌, ℕ, ◌<◌, ◌≤◌, cond, ltb, leb, List, length, take, drop, IfOk, Ok, Err, Result, sym, ap, ◌∙◌, inl, inr, arith, MatchResult}
use Rattle.std.proofs.lemmas.Result.{MatchResult-at_ok}
use Rattle.tape.specs.Tape.{Tape, track}
use Rattle.tape.specs.Calls.{read_answer}
use Rattle.std.proofs.lemmas.Bool.{lt-ltb, le-ltb, le-leb, cases_lt, cond-true, cond-false}
use Rattle.tape.specs.declared.refusal.Refusal.{Refusal}
use Rattle.tape.specs.declared.refusal.Refusal.TheVariants.{NoTrack}

-- an answer by two tests: a number below n, and then another within a limit
module _ {X : Type 0} (t n a b : ℕ) (x y z : X) where
  pub accepted : t < n → a ≤ b → x ≡ cond (ltb t n) (cond (leb a b) x y) z
  accepted h k = sym (cond-true (ltb t n) (cond (leb a b) x y) z (lt-ltb t n h) ∙ cond-true (leb a b) x y (le-leb a b k))

-- a length that was answered
pub length-told : (t n m x : ℕ) → ◌≡◌ {A = Result ℕ Refusal} (Ok x) (cond (ltb t n) (Ok m) (Err NoTrack)) → (t < n) × (x ≡ m)
length-told t n m x e = elim (cases_lt t n) [
  | inl h ↦ (h, let k : ◌≡◌ {A = Result ℕ Refusal} (Ok x) (Ok m) = e ∙ cond-true (ltb t n) (Ok m) (Err NoTrack) (lt-ltb t n h) in cc)
  | inr h ↦
      let k : ◌≡◌ {A = Result ℕ Refusal} (Ok x) (Err NoTrack) = e ∙ cond-false (ltb t n) (Ok m) (Err NoTrack) (le-ltb t n h) in
      let z : ◌≡◌ {A = ℕ} 0 1 = cc in
      absurd (omega arith)
]

-- two reads of equal cells
pub reads_same : (a b : Tape) (t p : ℕ) (x x' y y' : List ℕ) (q r : Result (Unit {0}) Refusal) → q ≡ read_answer a t p (length x) → r ≡ read_answer b t p (length y)
    → MatchResult q (λ _. x' ≡ take (length x) (drop p (track a t))) (λ _. x' ≡ x) → MatchResult r (λ _. y' ≡ take (length y) (drop p (track b t))) (λ _. y' ≡ y)
    → a ≡ b → length x ≡ length y → (q ≡ r) × IfOk q (λ _. x' ≡ y')
reads_same a b t p x x' y y' q r hq hr cq cr e l =
    let same : q ≡ r = hq ∙ (ap (λ (c : Tape). read_answer c t p (length x)) e ∙ (ap (read_answer b t p) l ∙ sym hr)) in
    (same, go q same cq)
  where
    go : (z : Result (Unit {0}) Refusal) → z ≡ r → MatchResult z (λ _. x' ≡ take (length x) (drop p (track a t))) (λ _. x' ≡ x) → IfOk z (λ _. x' ≡ y')
    go (Ok u) s h =
        h ∙ (ap (λ (c : Tape). take (length x) (drop p (track c t))) e ∙ (ap (λ (n : ℕ). take n (drop p (track b t))) l ∙ sym (MatchResult-at_ok (λ _. y' ≡ take (length y) (drop p (track b t))) (λ _. y' ≡ y) u (sym s) cr)))
    go (Err f) s h = tt
