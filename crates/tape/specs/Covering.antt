-- Which cells are under flaws, by their numbers and by track and place.
use Rattle.std.specs.Prelude.{◌≡◌, ℕ, zero, suc, ◌+◌, ◌-◌, ◌<◌, ◌≤◌, min, max, Bool, true, false, cond, ◌&&◌, List, [], ◌∷◌, ◌++◌, map, length, get_or, Decides, ◌==◌, nat_le, nat_lt, slice_index_or, refl}
use Rattle.std.proofs.Common.{sym, ap, subst, ◌∙◌, inl, inr, arith}
use Rattle.std.specs.List.{HoldsAt}
use Rattle.std.proofs.lemmas.List.{get_or_default}
use Rattle.std.proofs.lemmas.Bool.{leb-true, le-leb, cases_Bool, true≢false}
use Rattle.std.proofs.lemmas.Bool.Decides.{Decides-eqb, Decides-ltb, Decides-and, Decides-by_or}
use Rattle.tape.specs.Tape.{cell}
use Rattle.tape.specs.Stretches.{Holds, Sought}
use Rattle.tape.specs.Flaws.{cell_number, flaw_first, flaw_end, no_flaw, covers, under, masked, Clean, Apart, Whole}
use Rattle.tape.specs.declared.flaw.Flaw.{Flaw}

abbrev pub Covers : ℕ → ℕ → Flaw → Type 0
Covers t p f = (f.on ≡ t) × ((f.place ≤ p) × (p < f.place + f.extent))

decides_covers : (t p : ℕ) (f : Flaw) → Decides (covers f t p) (Covers t p f)
decides_covers t p f =
    Decides-and (f.on == t) (nat_le f.place p && nat_lt p (f.place + f.extent)) (Decides-eqb f.on t)
    (Decides-and (nat_le f.place p) (nat_lt p (f.place + f.extent)) (leb-true f.place p, le-leb f.place p) (Decides-ltb p (f.place + f.extent)))

decides_under : (t p : ℕ) (fs : List Flaw) → Decides (under fs t p) ((k : ℕ) × (k < length fs) × HoldsAt (Covers t p) fs k)
decides_under t p fs = Decides-by_or (λ f. covers f t p) (Covers t p) (λ xs. under xs t p) (decides_covers t p) refl (λ _ _. refl) fs

-- a cell under the flaw at k
pub under_at : (t p k : ℕ) (fs : List Flaw) → k < length fs → Covers t p (slice_index_or fs k no_flaw) → under fs t p ≡ true
under_at t p k fs h c = (decides_under t p fs).1 (k, h, λ d. subst (Covers t p) (get_or_default fs k no_flaw d h) c)

pub not_under : (t p : ℕ) (fs : List Flaw) → ((k : ℕ) → k < length fs → Covers t p (slice_index_or fs k no_flaw) → ⊥) → under fs t p ≡ false
not_under t p fs n = elim (cases_Bool (under fs t p)) [
  | inl e ↦ let w = (decides_under t p fs).0 e in absurd (n w.0 w.1 (w.2 no_flaw))
  | inr e ↦ e
]

-- by numbers: a flaw that lies on one track has just its own cells
pub covers_held : (t p : ℕ) (f : Flaw) → f.place + f.extent ≤ 100000000 → p < 100000000 → Holds (flaw_first f) f.extent (cell_number t p) → Covers t p f
covers_held t p f w l (a, b) = (omega arith, (omega arith, omega arith))

pub held_covers : (t p : ℕ) (f : Flaw) → Covers t p f → Holds (flaw_first f) f.extent (cell_number t p)
held_covers t p f (e, (a, b)) = (omega arith, omega arith)

module _ (fs : List Flaw) (apart : Apart fs) (whole : Whole fs) (t p : ℕ) (l : p < 100000000) where
  pub sought_under : (i : ℕ) → Sought flaw_first (λ f. f.extent) fs (cell_number t p) i → under fs t p ≡ true
  sought_under i s = under_at t p i fs s.inside (covers_held t p (slice_index_or fs i no_flaw) (whole i s.inside) l (s.holds no_flaw))

  pub none_under : ((i : ℕ) → Sought flaw_first (λ f. f.extent) fs (cell_number t p) i → ⊥) → under fs t p ≡ false
  none_under n = not_under t p fs (λ k h c. n k (record {
    inside = h;
    holds = λ d. subst (λ f. Holds (flaw_first f) f.extent (cell_number t p)) (get_or_default fs k no_flaw d h) (held_covers t p (slice_index_or fs k no_flaw) c);
    before = λ j q d.
        let x = held_covers t p (slice_index_or fs k no_flaw) c in
        let y = apart j k q h in
        subst (λ f. (Holds (flaw_first f) f.extent (cell_number t p) → ⊥) × (flaw_first f ≤ cell_number t p)) (get_or_default fs j no_flaw d (omega arith))
        (λ z. omega (arith, x.0, z.1), omega (arith, x.0));
  }))

pub length_masked : (fs : List Flaw) (t p : ℕ) (xs : List ℕ) → length (masked fs t p xs) ≡ length xs
length_masked fs t p [] = refl
length_masked fs t p (x ∷ xs) = ap suc (length_masked fs t (p + 1) xs)

pub getD_masked : (fs : List Flaw) (t p : ℕ) (xs : List ℕ) (k d : ℕ) → k < length xs → slice_index_or (masked fs t p xs) k d ≡ cond (under fs t (p + k)) 0 (slice_index_or xs k d)
getD_masked fs t p [] k d h = absurd (omega arith)
getD_masked fs t p (x ∷ xs) zero d h = ap (λ (n : ℕ). cond (under fs t n) 0 x) (omega arith)
getD_masked fs t p (x ∷ xs) (suc k) d h = getD_masked fs t (p + 1) xs k d (omega arith) ∙ ap (λ (n : ℕ). cond (under fs t n) 0 (slice_index_or xs k d)) (omega arith)

pub masked_append : (fs : List Flaw) (t p : ℕ) (xs ys : List ℕ) → masked fs t p (xs ++ ys) ≡ masked fs t p xs ++ masked fs t (p + length xs) ys
masked_append fs t p [] ys = ap (λ (n : ℕ). masked fs t n ys) (omega arith)
masked_append fs t p (x ∷ xs) ys = ap (λ (r : List ℕ). cond (under fs t p) 0 x ∷ r) (masked_append fs t (p + 1) xs ys ∙ ap (λ (n : ℕ). masked fs t (p + 1) xs ++ masked fs t n ys) (omega arith))

pub masked_clean : (fs : List Flaw) (t p : ℕ) (xs : List ℕ) → Clean fs t p (length xs) → masked fs t p xs ≡ xs
masked_clean fs t p [] c = refl
masked_clean fs t p (x ∷ xs) c =
    ap (λ (b : Bool). cond b 0 x ∷ masked fs t (p + 1) xs) (ap (under fs t) (omega arith) ∙ c 0 (omega arith))
    ∙ ap (λ (r : List ℕ). x ∷ r) (masked_clean fs t (p + 1) xs (λ i h. ap (under fs t) (omega arith) ∙ c (i + 1) (omega arith)))

pub cell_masked : (fs : List Flaw) (t p : ℕ) (xs : List ℕ) → map cell (masked fs t p xs) ≡ masked fs t p (map cell xs)
cell_masked fs t p [] = refl
cell_masked fs t p (x ∷ xs) = ap (λ (n : ℕ). n ∷ map cell (masked fs t (p + 1) xs)) (either (under fs t p)) ∙ ap (λ (r : List ℕ). cond (under fs t p) 0 (cell x) ∷ r) (cell_masked fs t (p + 1) xs)
  where
    either : (b : Bool) → cell (cond b 0 x) ≡ cond b 0 (cell x)
    either true = refl
    either false = refl

-- cells that share a number with the flaw at k
pub touched_not_clean : (fs : List Flaw) → Whole fs → (t p n k : ℕ) → p + n ≤ 100000000 → k < length fs
    → max (cell_number t p) (flaw_first (slice_index_or fs k no_flaw)) < min (cell_number t p + n) (flaw_end (slice_index_or fs k no_flaw)) → Clean fs t p n → ⊥
touched_not_clean fs whole t p n k l h m c =
    let f = get_or fs k no_flaw in
    let i = max (cell_number t p) (flaw_first f) - cell_number t p in
    let here : Covers t (p + i) f = covers_held t (p + i) f (whole k h) (omega arith) (omega arith, omega arith) in
    true≢false (sym (under_at t (p + i) k fs h here) ∙ c i (omega arith))

pub untouched_clean : (fs : List Flaw) (t p n : ℕ)
    → ((k : ℕ) → k < length fs → min (cell_number t p + n) (flaw_end (slice_index_or fs k no_flaw)) ≤ max (cell_number t p) (flaw_first (slice_index_or fs k no_flaw))) → Clean fs t p n
untouched_clean fs t p n none i h = not_under t (p + i) fs (λ k l c.
    let x = held_covers t (p + i) (slice_index_or fs k no_flaw) c in
    omega (arith, none k l, x.0, x.1))
