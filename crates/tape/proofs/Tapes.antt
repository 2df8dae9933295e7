-- Tapes that are given track by track, and tapes on which a run was added as it was sent.
use Rattle.std.proofs.Common.{◌≡◌, ℕ, zero, suc, ◌+◌, ◌<◌, ◌≤◌, List, [], ◌∷◌, ◌++◌, map, length, get_or, set, sym, refl, ap, ◌∙◌, subst, inl, inr, zero-add, arith, length-set}
use Rattle.std.specs.List.{range_with_len, AllByRecursion}
use Rattle.std.proofs.lemmas.List.{get_or_past, get_or-set_same, get_or-set_other, same_lists}
use Rattle.std.proofs.lemmas.Bool.{cases_eq, cases_lt}
use Rattle.std.proofs.lemmas.List.FromFn.{length-map-range_with_len, get_or-map-range_with_len}
use Rattle.tape.specs.Tape.{Tape, track, blank, tape_by, Cell, cell, Run, Longer}
use Rattle.tape.specs.Stores.{Unspoiled}

pub length_by : (n : ℕ) (f : ℕ → List ℕ) → length (tape_by n f) ≡ n
length_by n f = length-map-range_with_len f 0 n

pub track_by : (n : ℕ) (f : ℕ → List ℕ) (t : ℕ) → t < n → track (tape_by n f) t ≡ f t
track_by n f t h = get_or-map-range_with_len f 0 n t t [] h (zero-add t)

pub track-none : (c : Tape) (t : ℕ) → length c ≤ t → track c t ≡ []
track-none c t h = get_or_past c t [] h

-- what holds of each track's cells, and of no cells
pub each-track : (P : List ℕ → Type 0) (n : ℕ) (f : ℕ → List ℕ) → P [] → ((t : ℕ) → P (f t)) → (t : ℕ) → P (track (tape_by n f) t)
each-track P n f none each t = elim (cases_lt t n) [
  | inl h ↦ subst P (sym (track_by n f t h)) (each t)
  | inr h ↦ subst P (sym (track-none (tape_by n f) t (omega (arith, length_by n f)))) none
]

-- another tape by tracks, of which one track differs
pub by_set : (n : ℕ) (f g : ℕ → List ℕ) (t : ℕ) (x : List ℕ) → g t ≡ x → ((u : ℕ) → (u ≡ t → ⊥) → g u ≡ f u) → tape_by n g ≡ set (tape_by n f) t x
by_set n f g t x here there =
    same_lists _ _ (length_by n g ∙ sym (length-set (tape_by n f) t x ∙ length_by n f))
    (λ u d h. let l : u < n = omega (arith, length_by n g) in
    get_or-map-range_with_len g 0 n u u d l (zero-add u) ∙ elim (cases_eq u t) [
      | inl e ↦ ap g e ∙ here ∙ sym (ap (λ (k : ℕ). get_or (set (tape_by n f) t x) k d) e ∙ get_or-set_same (tape_by n f) t x d (omega (arith, length_by n f)))
      | inr e ↦ there u e ∙ sym (get_or-set_other (tape_by n f) t u x d e ∙ get_or-map-range_with_len f 0 n u u d l (zero-add u))
    ])

pub by_blank : (n : ℕ) (f : ℕ → List ℕ) → ((t : ℕ) → f t ≡ []) → tape_by n f ≡ blank n
by_blank n f e = go n 0
  where
    go : (n a : ℕ) → map f (range_with_len a n) ≡ blank n
    go zero a = refl
    go (suc n) a = ap (λ (x : List ℕ). x ∷ map f (range_with_len (a + 1) n)) (e a) ∙ ap (λ (x : Tape). [] ∷ x) (go n (a + 1))

-- the track that a run went to
pub unspoiled_track : (r : Run) (a b : Tape) → Unspoiled r a b → track b r.on ≡ track a r.on ++ r.sent
unspoiled_track r a b u = ap (λ (c : Tape). track c r.on) u.is ∙ get_or-set_same a r.on (track a r.on ++ r.sent) [] u.there

-- a medium that spoils nothing keeps the rules of every medium
pub unspoiled_longer : (r : Run) (a b : Tape) → Unspoiled r a b → Longer r a b
unspoiled_longer r a b u = record {
  there = u.there;
  added = r.sent;
  count = refl;
  is = unspoiled_track r a b u;
  others = λ t n. ap (λ (c : Tape). track c t) u.is ∙ get_or-set_other a r.on t (track a r.on ++ r.sent) [] n;
  tracks = ap length u.is ∙ length-set a r.on (track a r.on ++ r.sent);
}

-- cells stand for themselves
pub cells_are : (xs : List ℕ) → AllByRecursion Cell xs → map cell xs ≡ xs
cells_are [] h = refl
cells_are (x ∷ xs) (h, hs) = ap (λ (c : ℕ). c ∷ map cell xs) (one x h) ∙ ap (λ (r : List ℕ). x ∷ r) (cells_are xs hs)
  where
    one : (x : ℕ) → x < 2 → cell x ≡ x
    one zero h = refl
    one (suc zero) h = refl
    one (suc (suc x)) h = absurd (omega arith)

-- one entry of a list within a limit was replaced
pub within_set : (u : List ℕ) (t m c : ℕ) → m ≤ c → ((v : ℕ) → get_or u v 0 ≤ c) → (v : ℕ) → get_or (set u t m) v 0 ≤ c
within_set [] t m c h f v = f v
within_set (x ∷ u) zero m c h f zero = h
within_set (x ∷ u) zero m c h f (suc v) = f (suc v)
within_set (x ∷ u) (suc t) m c h f zero = f zero
within_set (x ∷ u) (suc t) m c h f (suc v) = within_set u t m c h (λ w. f (suc w)) v
