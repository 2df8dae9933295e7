-- Two shelf lists are equal exactly when the lists behind them are equally long and have marks at the same numbers.
use Rattle.std.proofs.Common.{◌≡◌, ℕ, zero, suc, ◌<◌, Bool, true, false, cond, ◌&&◌, ◌||◌, eqb, ◌↔◌, List, [], ◌∷◌, ◌++◌, length, replicate, sym, refl, ap, ◌∙◌, inl, inr, arith}
use Rattle.qic24.specs.Copy.{Numbered}
use Rattle.shelf.specs.Shelf.{row_of, is_mark, rows_from, shelf_list, mark_under}
use Rattle.shelf.specs.declared.row.ShelfRow.{ShelfRow}
use Rattle.replay.specs.Replay.{NumberedFrom}
use Rattle.std.proofs.lemmas.Bool.{cases_eq, eq-eqb, ne_eqb}

abbrev kinds : List Numbered → List Bool
kinds [] = []
kinds (i ∷ is) = is_mark i.content ∷ kinds is

-- the kinds that a shelf list stands for
abbrev unshelved : List ShelfRow → List Bool
unshelved [] = []
unshelved (r ∷ rs) = replicate r.count false ++ (cond r.closed (true ∷ []) [] ++ unshelved rs)

shoved : (c : ℕ) (ks : List Bool) → false ∷ (replicate c false ++ ks) ≡ replicate c false ++ (false ∷ ks)
shoved zero ks = refl
shoved (suc c) ks = ap (λ (r : List Bool). false ∷ r) (shoved c ks)

unshelve : (f c : ℕ) (is : List Numbered) → unshelved (rows_from f c is) ≡ replicate c false ++ kinds is
unshelve f zero [] = refl
unshelve f (suc c) [] = ap (λ (b : Bool). unshelved (cond b [] (row_of f (suc c) false ∷ []))) (ne_eqb (suc c) 0 (λ e. omega arith))
unshelve f c (i ∷ is) = go (is_mark i.content) (unshelve 0 0 is) (unshelve (cond (eqb c 0) i.number f) (suc c) is)
  where
    go : (b : Bool) → unshelved (rows_from 0 0 is) ≡ kinds is → unshelved (rows_from (cond (eqb c 0) i.number f) (suc c) is) ≡ replicate (suc c) false ++ kinds is → unshelved (cond b (row_of (cond (eqb c 0) i.number f) c true ∷ rows_from 0 0 is) (rows_from (cond (eqb c 0) i.number f) (suc c) is)) ≡ replicate c false ++ (b ∷ kinds is)
    go true p q = ap (λ (r : List Bool). replicate c false ++ (true ∷ r)) p
    go false p q = q ∙ shoved c (kinds is)

-- equal kinds under equal numbers make equal rows
same_rows : (n f c : ℕ) (xs ys : List Numbered) → NumberedFrom n xs → NumberedFrom n ys → kinds xs ≡ kinds ys → rows_from f c xs ≡ rows_from f c ys
same_rows n f c [] [] p q e = refl
same_rows n f c [] (b ∷ ys) p q e = let z : ◌≡◌ {A = ℕ} 0 (suc (length (kinds ys))) = ap length e in absurd (omega arith)
same_rows n f c (a ∷ xs) [] p q e = let z : ◌≡◌ {A = ℕ} (suc (length (kinds xs))) 0 = ap length e in absurd (omega arith)
same_rows n f c (a ∷ xs) (b ∷ ys) p q e =
    let k : is_mark a.content ≡ is_mark b.content = cc in
    let t : kinds xs ≡ kinds ys = cc in
    let m : a.number ≡ b.number = p.0 ∙ sym q.0 in
    let r0 = same_rows (suc n) 0 0 xs ys p.1 q.1 t in
    let r1 = same_rows (suc n) (cond (eqb c 0) b.number f) (suc c) xs ys p.1 q.1 t in
    ap (λ (x : ℕ). cond (is_mark a.content) (row_of (cond (eqb c 0) x f) c true ∷ rows_from 0 0 xs) (rows_from (cond (eqb c 0) x f) (suc c) xs)) m ∙
    (ap (λ (x : Bool). cond x (row_of (cond (eqb c 0) b.number f) c true ∷ rows_from 0 0 xs) (rows_from (cond (eqb c 0) b.number f) (suc c) xs)) k ∙
    (ap (λ (x : List ShelfRow). cond (is_mark b.content) (row_of (cond (eqb c 0) b.number f) c true ∷ x) (rows_from (cond (eqb c 0) b.number f) (suc c) xs)) r0 ∙
    ap (λ (x : List ShelfRow). cond (is_mark b.content) (row_of (cond (eqb c 0) b.number f) c true ∷ rows_from 0 0 ys) x) r1))

length_kinds : (is : List Numbered) → length (kinds is) ≡ length is
length_kinds [] = refl
length_kinds (i ∷ is) = ap suc (length_kinds is)

-- no mark under a number before the first
too_early : (n k : ℕ) (is : List Numbered) → k < n → NumberedFrom n is → mark_under k is ≡ false
too_early n k [] h p = refl
too_early n k (i ∷ is) h p =
    ap (λ (b : Bool). (b && is_mark i.content) || mark_under k is) (ne_eqb i.number k (λ e. omega (arith, p.0))) ∙ too_early (suc n) k is (omega arith) p.1

same_marks : (n : ℕ) (xs ys : List Numbered) → NumberedFrom n xs → NumberedFrom n ys → kinds xs ≡ kinds ys → (k : ℕ) → mark_under k xs ≡ mark_under k ys
same_marks n [] [] p q e k = refl
same_marks n [] (b ∷ ys) p q e k = let z : ◌≡◌ {A = ℕ} 0 (suc (length (kinds ys))) = ap length e in absurd (omega arith)
same_marks n (a ∷ xs) [] p q e k = let z : ◌≡◌ {A = ℕ} (suc (length (kinds xs))) 0 = ap length e in absurd (omega arith)
same_marks n (a ∷ xs) (b ∷ ys) p q e k =
    let t : kinds xs ≡ kinds ys = cc in
    let m : a.number ≡ b.number = p.0 ∙ sym q.0 in
    let i : is_mark a.content ≡ is_mark b.content = cc in
    let r = same_marks (suc n) xs ys p.1 q.1 t k in
    cc

-- the mark at the first number, and at the later ones
at_head : (n : ℕ) (i : Numbered) (is : List Numbered) → NumberedFrom n (i ∷ is) → mark_under n (i ∷ is) ≡ is_mark i.content
at_head n i is p =
    ap (λ (b : Bool). (b && is_mark i.content) || mark_under n is) (eq-eqb i.number n p.0) ∙
    (ap (λ (b : Bool). is_mark i.content || b) (too_early (suc n) n is (omega arith) p.1) ∙ last (is_mark i.content))
  where
    last : (b : Bool) → b || false ≡ b
    last true = refl
    last false = refl

at_tail : (n k : ℕ) (i : Numbered) (is : List Numbered) → NumberedFrom n (i ∷ is) → (k ≡ n → ⊥) → mark_under k (i ∷ is) ≡ mark_under k is
at_tail n k i is p d = ap (λ (b : Bool). (b && is_mark i.content) || mark_under k is) (ne_eqb i.number k (λ e. d (sym e ∙ p.0)))

same_kinds : (n : ℕ) (xs ys : List Numbered) → NumberedFrom n xs → NumberedFrom n ys → length xs ≡ length ys → ((k : ℕ) → mark_under k xs ≡ mark_under k ys) → kinds xs ≡ kinds ys
same_kinds n [] [] p q l e = refl
same_kinds n [] (b ∷ ys) p q l e = absurd (omega arith)
same_kinds n (a ∷ xs) [] p q l e = absurd (omega arith)
same_kinds n (a ∷ xs) (b ∷ ys) p q l e =
    let h : is_mark a.content ≡ is_mark b.content = sym (at_head n a xs p) ∙ (e n ∙ at_head n b ys q) in
    let t : kinds xs ≡ kinds ys = same_kinds (suc n) xs ys p.1 q.1 (omega arith) tail in
    cc
  where
    tail : (k : ℕ) → mark_under k xs ≡ mark_under k ys
    tail k = elim (cases_eq k n) [ inl s ↦ too_early (suc n) k xs (omega arith) p.1 ∙ sym (too_early (suc n) k ys (omega arith) q.1) | inr d ↦ sym (at_tail n k a xs p d) ∙ (e k ∙ at_tail n k b ys q d) ]

pub equal_shelves : (n : ℕ) (xs ys : List Numbered) → NumberedFrom n xs → NumberedFrom n ys → (shelf_list xs ≡ shelf_list ys) ↔ ((length xs ≡ length ys) × ((k : ℕ) → mark_under k xs ≡ mark_under k ys))
equal_shelves n xs ys p q = (
  λ e. let k : kinds xs ≡ kinds ys = sym (unshelve 0 0 xs) ∙ (ap unshelved e ∙ unshelve 0 0 ys) in (sym (length_kinds xs) ∙ (ap length k ∙ length_kinds ys), same_marks n xs ys p q k),
  λ e. same_rows n 0 0 xs ys p q (same_kinds n xs ys p q e.0 e.1),
)
