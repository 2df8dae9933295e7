-- A body as 518 groups, each the cells of a table entry.
use Rattle.std.proofs.Common.{◌≡◌, ℕ, zero, suc, ◌+◌, ◌*◌, ◌/◌, ◌%◌, ◌^◌, ◌<◌, ◌≤◌, Bool, true, false, cond, ◌||◌, eqb, ◌⊎◌, List, [], ◌∷◌, ◌++◌, map, length, get_or, take, drop, replicate, Some, None, Option, sym, refl, ap, ◌∙◌, subst, inl, inr, ⊎_elim, le_of_suc-le-suc, not-suc-le-zero, add-zero, add-suc, suc-add, arith, lit<, take-add}
use Rattle.std.specs.List.{AllByRecursion}
use Rattle.std.proofs.lemmas.List.{append_assoc, length-append, length-take-le, length-drop, take_at, drop_at}
use Rattle.std.proofs.ByRecursion.{All-append, All-take, All-drop}
use Rattle.std.proofs.lemmas.Bool.{agree_below_at, cond_both, cond-true, cond-false, ne_eqb, eqb-true, eqb-false, or_cases}
use Rattle.qic24.specs.Cells.{concat, bits, number_of, Cell, nibble_codes, nibble_cells, byte_cells, mark_cells}
use Rattle.qic24.specs.declared.fault.GroupFault.{GroupFault}
use Rattle.qic24.specs.Decode.{entry, groups, first_fault, no_code_at, fault_at, marks_in, byte_of}
use Rattle.qic24.proofs.Binary.{length_byte, bits-binary, bits-number, number_of-below, mark_cells-is}
use Rattle.qic24.proofs.Tables.{same_below}

-- the cells of an entry
unfoldable pub entry-cells : ℕ → List ℕ
entry-cells e = cond (eqb e 256) mark_cells (byte_cells e)

pub byte_entry : (b : ℕ) → b < 256 → entry-cells b ≡ byte_cells b
unfolding entry-cells
byte_entry b h = cond-false (eqb b 256) mark_cells (byte_cells b) (ne_eqb b 256 (λ e. omega arith))

pub mark-entry : entry-cells 256 ≡ mark_cells
unfolding entry-cells
mark-entry = refl

pub length-entry : (e : ℕ) → length (entry-cells e) ≡ 10
unfolding entry-cells
length-entry e = cond_both (eqb e 256) mark_cells (byte_cells e) (λ z. length z ≡ 10) (λ _. ap (λ (z : List ℕ). length z) mark_cells-is) (λ _. length_byte e)

byte_binary : (b : ℕ) → AllByRecursion Cell (byte_cells b)
unfolding byte_cells nibble_cells
byte_binary b = All-append Cell (bits 5 (get_or nibble_codes (b / 16) 0)) (bits 5 (get_or nibble_codes (b % 16) 0)) (bits-binary 5 (get_or nibble_codes (b / 16) 0)) (bits-binary 5 (get_or nibble_codes (b % 16) 0))

mark-binary : AllByRecursion Cell mark_cells
unfolding mark_cells
mark-binary = bits-binary 10 0b0010100101

pub binary-entry : (e : ℕ) → AllByRecursion Cell (entry-cells e)
unfolding entry-cells
binary-entry e = cond_both (eqb e 256) mark_cells (byte_cells e) (AllByRecursion Cell) (λ _. mark-binary) (λ _. byte_binary e)

-- a group as a number
abbrev pub group_number : ℕ → ℕ
group_number e = number_of (entry-cells e)

-- the two computed tests: entries read back, and groups that are codes are the cells of their entry
pub entry_of_number : (e : ℕ) → e < 257 → entry (group_number e) ≡ e
unfolding entry entry-cells nibble_codes nibble_cells byte_cells mark_cells bits
entry_of_number e h = same_below (λ e. entry (group_number e)) (λ e. e) 257 refl e h

number_of-entry : (g : ℕ) → g < 1024 → (entry g ≡ 257) ⊎ (group_number (entry g) ≡ g)
unfolding entry entry-cells nibble_codes nibble_cells byte_cells mark_cells bits
number_of-entry g h =
    ⊎_elim (λ p. inl (eqb-true (entry g) 257 p)) (λ p. inr (eqb-true (group_number (entry g)) g p))
    (or_cases (eqb (entry g) 257) (eqb (group_number (entry g)) g) (agree_below_at (λ g. eqb (entry g) 257 || eqb (group_number (entry g)) g) (λ _. true) 1024 g refl h))

pub cells_of_group : (g : ℕ) → g < 1024 → entry g ≤ 256 → entry-cells (entry g) ≡ bits 10 g
cells_of_group g h k =
    ⊎_elim (λ (p : entry g ≡ 257). absurd (omega arith))
    (λ (p : group_number (entry g) ≡ g).
    sym (bits-number (entry-cells (entry g)) (binary-entry (entry g))) ∙ ap (λ n. bits n (group_number (entry g))) (length-entry (entry g)) ∙ ap (bits 10) p)
    (number_of-entry g h)

-- entries, each as its cells, one after the other
abbrev pub spelled : List ℕ → List ℕ
spelled es = concat (map entry-cells es)

pub spelled_append : (xs ys : List ℕ) → spelled (xs ++ ys) ≡ spelled xs ++ spelled ys
spelled_append [] ys = refl
spelled_append (x ∷ xs) ys = ap (λ (z : List ℕ). entry-cells x ++ z) (spelled_append xs ys) ∙ sym (append_assoc (entry-cells x) (spelled xs) (spelled ys))

pub length_spelled : (es : List ℕ) → length (spelled es) ≡ length es * 10
length_spelled [] = refl
length_spelled (e ∷ es) = length-append (entry-cells e) (spelled es) ∙ omega (arith, length-entry e, length_spelled es)

-- the groups of what is spelled
pub groups_spelled : (es rest : List ℕ) → groups (length es) (spelled es ++ rest) ≡ map group_number es
unfolding groups
groups_spelled [] rest = refl
groups_spelled (e ∷ es) rest =
    let a : (entry-cells e ++ spelled es) ++ rest ≡ entry-cells e ++ (spelled es ++ rest) = append_assoc (entry-cells e) (spelled es) rest in
    let t : take 10 ((entry-cells e ++ spelled es) ++ rest) ≡ entry-cells e = ap (take 10) a ∙ take_at (entry-cells e) (spelled es ++ rest) 10 (length-entry e) in
    let d : drop 10 ((entry-cells e ++ spelled es) ++ rest) ≡ spelled es ++ rest = ap (drop 10) a ∙ drop_at (entry-cells e) (spelled es ++ rest) 10 (length-entry e) in
    ap (λ (z : List ℕ). number_of z ∷ groups (length es) (drop 10 ((entry-cells e ++ spelled es) ++ rest))) t ∙ ap (λ (z : List ℕ). group_number e ∷ groups (length es) z) d ∙ ap (λ (z : List ℕ). group_number e ∷ z) (groups_spelled es rest)

-- groups that are all codes spell the cells
pub spelled_groups : (n : ℕ) (c : List ℕ) → AllByRecursion Cell c → n * 10 ≤ length c → AllByRecursion (λ g. entry g ≤ 256) (groups n c) → spelled (map entry (groups n c)) ≡ take (n * 10) c
unfolding groups
spelled_groups zero c h k a = refl
spelled_groups (suc n) c h k (a, more) =
    let g = number_of (take 10 c) in
    let l : length (take 10 c) ≡ 10 = length-take-le 10 c (omega arith) in
    let b = All-take Cell 10 c h in
    let s : g < 1024 = subst (λ w. g < 2 ^ w) l (number_of-below (take 10 c) b) in
    let e : entry-cells (entry g) ≡ take 10 c = cells_of_group g s a ∙ ap (λ w. bits w g) (sym l) ∙ bits-number (take 10 c) b in
    let ld = length-drop 10 c in
    let i = spelled_groups n (drop 10 c) (All-drop Cell 10 c h) (omega arith) more in
    ap (λ (z : List ℕ). z ++ spelled (map entry (groups n (drop 10 c)))) e ∙ ap (λ (z : List ℕ). take 10 c ++ z) i ∙ sym (ap (λ m. take m c) (omega arith) ∙ take-add 10 (n * 10) c)

-- no fault: every group is a code where it stands
pub codes-from : (gs : List ℕ) (k : ℕ) → first_fault k gs ≡ None → (j : ℕ) → j < length gs → no_code_at (k + j) (entry (get_or gs j 0)) ≡ false
codes-from [] k e j h = absurd (not-suc-le-zero h)
codes-from (g ∷ gs) k e j h = by (no_code_at k (entry g)) refl e (λ q. codes-from gs (suc k) q) j h
  where
    by : (b : Bool) → no_code_at k (entry g) ≡ b → ◌≡◌ {A = Option GroupFault} (cond b (Some (fault_at k g)) (first_fault (suc k) gs)) None →
        (first_fault (suc k) gs ≡ None → (j : ℕ) → j < length gs → no_code_at (suc k + j) (entry (get_or gs j 0)) ≡ false) →
        (j : ℕ) → j < suc (length gs) → no_code_at (k + j) (entry (get_or (g ∷ gs) j 0)) ≡ false
    by true p q rest j h = absurd (let z : ◌≡◌ {A = ℕ} 0 1 = cc in omega arith)
    by false p q rest zero h = ap (λ n. no_code_at n (entry g)) (add-zero k) ∙ p
    by false p q rest (suc j) h = ap (λ n. no_code_at n (entry (get_or gs j 0))) (add-suc k j ∙ sym (suc-add k j)) ∙ rest q j (le_of_suc-le-suc h)

pub codes_to : (gs : List ℕ) (k : ℕ) → ((j : ℕ) → j < length gs → no_code_at (k + j) (entry (get_or gs j 0)) ≡ false) → first_fault k gs ≡ None
codes_to [] k h = refl
codes_to (g ∷ gs) k h =
    cond-false (no_code_at k (entry g)) (Some (fault_at k g)) (first_fault (suc k) gs) (ap (λ n. no_code_at n (entry g)) (sym (add-zero k)) ∙ h 0 (omega arith)) ∙
    codes_to gs (suc k) (λ j l. ap (λ n. no_code_at n (entry (get_or gs j 0))) (suc-add k j ∙ sym (add-suc k j)) ∙ h (suc j) (omega arith))

-- what the CRC counts of an entry
abbrev pub counts_as : ℕ → ℕ
counts_as e = cond (eqb e 256) 0xFF e

-- entries that are bytes, and entries that are mark bytes
pub plain_bytes : (es : List ℕ) → AllByRecursion (λ e. e < 256) es → (map byte_of (map group_number es) ≡ es) × (marks_in (map group_number es) ≡ 0)
plain_bytes [] h = (refl, refl)
plain_bytes (e ∷ es) (h, hs) =
    let i = plain_bytes es hs in
    let r : entry (group_number e) ≡ e = entry_of_number e (omega arith) in
    let b : eqb (entry (group_number e)) 256 ≡ false = ap (λ n. eqb n 256) r ∙ ne_eqb e 256 (λ q. omega arith) in (
      ap (λ n. n ∷ map byte_of (map group_number es)) (cond-false (eqb (entry (group_number e)) 256) 0xFF (entry (group_number e)) b ∙ r) ∙ ap (λ (z : List ℕ). e ∷ z) i.0,
      ap (λ n. n + marks_in (map group_number es)) (cond-false (eqb (entry (group_number e)) 256) 1 0 b) ∙ omega (arith, i.1),
    )

pub mark-bytes : (n : ℕ) → (map byte_of (map group_number (replicate n 256)) ≡ replicate n 0xFF) × (marks_in (map group_number (replicate n 256)) ≡ n)
mark-bytes zero = (refl, refl)
mark-bytes (suc n) =
    let i = mark-bytes n in
    let r : entry (group_number 256) ≡ 256 = entry_of_number 256 (lit< tt) in
    let b : eqb (entry (group_number 256)) 256 ≡ true = ap (λ n. eqb n 256) r in (
      ap (λ m. m ∷ map byte_of (map group_number (replicate n 256))) (cond-true (eqb (entry (group_number 256)) 256) 0xFF (entry (group_number 256)) b) ∙ ap (λ (z : List ℕ). 0xFF ∷ z) i.0,
      ap (λ m. m + marks_in (map group_number (replicate n 256))) (cond-true (eqb (entry (group_number 256)) 256) 1 0 b) ∙ omega (arith, i.1),
    )

pub marks-append : (xs ys : List ℕ) → marks_in (xs ++ ys) ≡ marks_in xs + marks_in ys
marks-append [] ys = omega arith
marks-append (x ∷ xs) ys = ap (λ n. cond (eqb (entry x) 256) 1 0 + n) (marks-append xs ys) ∙ omega arith

-- how many mark bytes there can be
pub marks-most : (gs : List ℕ) → marks_in gs ≤ length gs
marks-most [] = omega arith
marks-most (g ∷ gs) = cond_both (eqb (entry g) 256) 1 0 (λ n. n + marks_in gs ≤ suc (length gs)) (λ _. omega (arith, marks-most gs)) (λ _. omega (arith, marks-most gs))

-- no mark byte: the bytes are the entries
pub marks-none : (gs : List ℕ) → marks_in gs ≡ 0 → AllByRecursion (λ g. entry g ≤ 256) gs → (map byte_of gs ≡ map entry gs) × AllByRecursion (λ e. e < 256) (map entry gs)
marks-none [] e a = (refl, tt)
marks-none (g ∷ gs) e (a, more) = by (eqb (entry g) 256) refl e (λ z. marks-none gs z more)
  where
    by : (b : Bool) → eqb (entry g) 256 ≡ b → cond b 1 0 + marks_in gs ≡ 0 → (marks_in gs ≡ 0 → (map byte_of gs ≡ map entry gs) × AllByRecursion (λ e. e < 256) (map entry gs)) →
        (map byte_of (g ∷ gs) ≡ map entry (g ∷ gs)) × AllByRecursion (λ e. e < 256) (map entry (g ∷ gs))
    by true p q tail = absurd (omega arith)
    by false p q tail =
        let i = tail (omega arith) in
        let ne = eqb-false (entry g) 256 p in
        (ap (λ n. n ∷ map byte_of gs) (cond-false (eqb (entry g) 256) 0xFF (entry g) p) ∙ ap (λ (z : List ℕ). entry g ∷ z) i.0, (grind arith, i.1))

-- all mark bytes
pub marks-all : (gs : List ℕ) → marks_in gs ≡ length gs → (map byte_of gs ≡ replicate (length gs) 0xFF) × (map entry gs ≡ replicate (length gs) 256)
marks-all [] e = (refl, refl)
marks-all (g ∷ gs) e = by (eqb (entry g) 256) refl e (marks-all gs)
  where
    by : (b : Bool) → eqb (entry g) 256 ≡ b → cond b 1 0 + marks_in gs ≡ suc (length gs) →
        (marks_in gs ≡ length gs → (map byte_of gs ≡ replicate (length gs) 0xFF) × (map entry gs ≡ replicate (length gs) 256)) →
        (map byte_of (g ∷ gs) ≡ replicate (suc (length gs)) 0xFF) × (map entry (g ∷ gs) ≡ replicate (suc (length gs)) 256)
    by true p q tail =
        let i = tail (omega arith) in
        (ap (λ n. n ∷ map byte_of gs) (cond-true (eqb (entry g) 256) 0xFF (entry g) p) ∙ ap (λ (z : List ℕ). 0xFF ∷ z) i.0, ap (λ n. n ∷ map entry gs) (eqb-true (entry g) 256 p) ∙ ap (λ (z : List ℕ). 256 ∷ z) i.1)
    by false p q tail = absurd (let m = marks-most gs in omega arith)
