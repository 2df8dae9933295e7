-- Groups of ten cells, one after the other.
use Rattle.std.proofs.Common.{◌≡◌, ℕ, zero, suc, ◌+◌, ◌*◌, ◌/◌, ◌%◌, ◌<◌, ◌≤◌, Bool, true, false, cond, ◌&&◌, eqb, ltb, leb, List, [], ◌∷◌, ◌++◌, map, length, get_or, take, drop, Some, Ok, Err, Result, sym, refl, ap, ◌∙◌, le_of_suc-le-suc, not-suc-le-zero, add-one, arith, lit≤}
use mir.Val.{bool_byte}
use Rattle.std.proofs.lemmas.List.{drop-drop, drop-take, take-take, take-map, drop-map, at_drop_more}
use Rattle.std.proofs.lemmas.Bool.{cond_both, cond-true, cond-false, and_parts, or_parts, ltb-true, eqb-false}
use Rattle.std.specs.Simd.{first_chunks}
use Rattle.qic24.specs.declared.fault.GroupFault.{GroupFault}
use Rattle.qic24.specs.declared.decoding.Symbol.{Symbol}
use Rattle.qic24.specs.declared.decoding.Symbol.TheVariants.{Byte, Mark}
use Rattle.qic24.specs.Symbols.{symbol_of, symbol_byte, symbol_is_mark}
use Rattle.qic24.specs.Cells.{number_of, nibble_codes, cell}
use Rattle.qic24.specs.Decode.{groups, entry, byte_from, position, first_fault, no_code_at, fault_at, marks_in}

pub length-groups : (n : ℕ) (c : List ℕ) → length (groups n c) ≡ n
unfolding groups
length-groups zero c = refl
length-groups (suc n) c = ap suc (length-groups n (drop 10 c))

pub group_at : (n k : ℕ) (c : List ℕ) → k < n → get_or (groups n c) k 0 ≡ number_of (take 10 (drop (k * 10) c))
unfolding groups
group_at zero k c h = absurd (not-suc-le-zero h)
group_at (suc n) zero c h = refl
group_at (suc n) (suc k) c h =
    group_at n k (drop 10 c) (le_of_suc-le-suc h) ∙ ap (λ (z : List ℕ). number_of (take 10 z)) (drop-drop (k * 10) 10 c) ∙ ap (λ m. number_of (take 10 (drop m c))) (omega arith)

pub entry-small : (g : ℕ) → entry g ≤ 257
unfolding entry
entry-small g =
    cond_both (eqb g 165) 256 (byte_from (position nibble_codes (g / 32)) (position nibble_codes (g % 32))) (λ x. x ≤ 257) (λ _. omega arith)
    (λ _. small (position nibble_codes (g / 32)) (position nibble_codes (g % 32)))
  where
    small : (h l : ℕ) → byte_from h l ≤ 257
    small h l = cond_both (ltb h 16 && ltb l 16) (h * 16 + l) 257 (λ x. x ≤ 257)
        (λ e. let p = and_parts (ltb h 16) (ltb l 16) e in omega (arith, ltb-true h 16 p.0, ltb-true l 16 p.1)) (λ _. omega arith)

pub marks-more : (gs : List ℕ) (g : ℕ) → marks_in (gs ++ g ∷ []) ≡ marks_in gs + cond (eqb (entry g) 256) 1 0
marks-more [] g = omega arith
marks-more (x ∷ gs) g = ap (λ n. cond (eqb (entry x) 256) 1 0 + n) (marks-more gs g) ∙ omega arith

-- what a test of a group tells
pub ok_code : (b : Bool) (f : GroupFault) (x e : Symbol) → ◌≡◌ {A = Result Symbol GroupFault} (Ok x) (cond b (Err f) (Ok e)) → (b ≡ false) × (x ≡ e)
ok_code true f x e h = absurd (let z : ◌≡◌ {A = ℕ} 0 1 = cc in omega arith)
ok_code false f x e h = (refl, cc)

pub err_code : (b : Bool) (f g : GroupFault) (e : Symbol) → ◌≡◌ {A = Result Symbol GroupFault} (Err g) (cond b (Err f) (Ok e)) → (b ≡ true) × (g ≡ f)
err_code true f g e h = (refl, cc)
err_code false f g e h = absurd (let z : ◌≡◌ {A = ℕ} 0 1 = cc in omega arith)

pub code_small : (k g : ℕ) → no_code_at k (entry g) ≡ false → entry g ≤ 256
code_small k g h =
    let p = or_parts (eqb (entry g) 257) (eqb (entry g) 256 && leb 512 k) h in
    let q : (entry g ≡ 257 → ⊥) = eqb-false (entry g) 257 p.0 in
    let s = entry-small g in
    grind arith

-- one group on
pub fault_step : (gs : List ℕ) (i : ℕ) → i < length gs → no_code_at i (entry (get_or gs i 0)) ≡ false → first_fault (i + 1) (drop (i + 1) gs) ≡ first_fault i (drop i gs)
fault_step gs i h b =
    sym (at_drop_more (first_fault i) gs i 0 h ∙ cond-false (no_code_at i (entry (get_or gs i 0))) (Some (fault_at i (get_or gs i 0))) (first_fault (suc i) (drop (i + 1) gs)) b ∙
    ap (λ n. first_fault n (drop (i + 1) gs)) (sym (add-one i)))

pub fault_here : (gs : List ℕ) (i : ℕ) → i < length gs → no_code_at i (entry (get_or gs i 0)) ≡ true → first_fault i (drop i gs) ≡ Some (fault_at i (get_or gs i 0))
fault_here gs i h b =
    at_drop_more (first_fault i) gs i 0 h ∙ cond-true (no_code_at i (entry (get_or gs i 0))) (Some (fault_at i (get_or gs i 0))) (first_fault (suc i) (drop (i + 1) gs)) b

-- a symbol's byte, and whether it is the mark byte
pub symbol-byte : (e : ℕ) → symbol_byte (symbol_of e) ≡ cond (eqb e 256) 255 e
symbol-byte e = by (eqb e 256)
  where
    by : (b : Bool) → symbol_byte (cond b Mark (Byte e)) ≡ cond b 255 e
    by true = refl
    by false = refl

pub symbol-is_mark : (e : ℕ) → bool_byte (symbol_is_mark (symbol_of e)) ≡ cond (eqb e 256) 1 0
symbol-is_mark e = by (eqb e 256)
  where
    by : (b : Bool) → bool_byte (symbol_is_mark (cond b Mark (Byte e))) ≡ cond b 1 0
    by true = refl
    by false = refl

-- a group as the code has it
pub chunk_group : (n k : ℕ) (bs : List ℕ) → k < n → number_of (map cell (get_or (first_chunks 10 n bs) k [])) ≡ get_or (groups n (map cell bs)) k 0
unfolding groups
chunk_group zero k bs h = absurd (not-suc-le-zero h)
chunk_group (suc n) zero bs h = ap number_of (sym (take-map cell 10 bs))
chunk_group (suc n) (suc k) bs h = chunk_group n k (drop 10 bs) (le_of_suc-le-suc h) ∙ ap (λ (z : List ℕ). get_or (groups n z) k 0) (sym (drop-map cell 10 bs))

-- what follows the groups does not count
pub groups_of_front : (n : ℕ) (c : List ℕ) → groups n (take (n * 10) c) ≡ groups n c
unfolding groups
groups_of_front zero c = refl
groups_of_front (suc n) c =
    let w : suc n * 10 ≡ 10 + n * 10 = omega arith in
    let a : take 10 (take (suc n * 10) c) ≡ take 10 c = take-take 10 (suc n * 10) c (omega arith) in
    let b : drop 10 (take (suc n * 10) c) ≡ take (n * 10) (drop 10 c) = ap (λ m. drop 10 (take m c)) w ∙ drop-take 10 (n * 10) c in
    ap (λ (z : List ℕ). number_of z ∷ groups n (drop 10 (take (suc n * 10) c))) a ∙ ap (λ (z : List ℕ). number_of (take 10 c) ∷ z) (ap (groups n) b ∙ groups_of_front n (drop 10 c))

pub bool_byte-le : (b : Bool) → bool_byte b ≤ 1
bool_byte-le true = lit≤ tt
bool_byte-le false = lit≤ tt
