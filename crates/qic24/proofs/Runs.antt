-- No nine ones in a row: nine cells in a row hold a whole nibble, and every nibble has a zero.
use Rattle.std.proofs.Common.{◌≡◌, ℕ, zero, suc, ◌+◌, ◌-◌, ◌*◌, ◌/◌, ◌<◌, ◌≤◌, true, not, ◌&&◌, eqb, List, [], ◌∷◌, ◌++◌, length, get_or, take, drop, replicate, sym, refl, ap, ◌∙◌, ⊎_elim, le_of_suc-le-suc, not-suc-le-zero, arith, lit<}
use Rattle.std.specs.List.{AllByRecursion}
use Rattle.std.proofs.lemmas.List.{append_assoc, length-take, length-take-le, length-drop, take-append-drop, get_or_append_left, get_or-append_right, get_or-take, get_or-drop, get_or-replicate, ext_get_or}
use Rattle.std.proofs.ByRecursion.{All-append, All-get_or, All-weaker}
use Rattle.std.proofs.lemmas.Bool.{agree_below_at, and_parts, not-true, eqb-false, cases_lt}
use Rattle.qic24.specs.Cells.{concat, bits, number_of, nibble_codes, nibble_cells, byte_cells, mark_cells}
use Rattle.qic24.specs.Copy.{Numbered, Proper, body}
use Rattle.qic24.specs.Opening.{opening, Opens, SoundAt}
use Rattle.qic24.proofs.Entries.{entry-cells, length-entry, spelled}
use Rattle.qic24.proofs.Body.{data_entries, tail_bytes, entries, body_spelled, length_entries, data_small, tail_small}
use Rattle.qic24.proofs.Exactly.{length-body}

-- a nibble's cells: five, and not all ones
abbrev Nibble : List ℕ → Type 0
Nibble x = (length x ≡ 5) × (number_of x ≡ 31 → ⊥)

-- the nibbles of entries
abbrev halves : List ℕ → List (List ℕ)
halves [] = []
halves (e ∷ es) = take 5 (entry-cells e) ∷ drop 5 (entry-cells e) ∷ halves es

spelled_halves : (es : List ℕ) → spelled es ≡ concat (halves es)
spelled_halves [] = refl
spelled_halves (e ∷ es) =
    ap (λ (z : List ℕ). z ++ spelled es) (sym (take-append-drop 5 (entry-cells e))) ∙ append_assoc (take 5 (entry-cells e)) (drop 5 (entry-cells e)) (spelled es) ∙
    ap (λ (z : List ℕ). take 5 (entry-cells e) ++ (drop 5 (entry-cells e) ++ z)) (spelled_halves es)

length_halves : (es : List ℕ) → length (halves es) ≡ length es * 2
length_halves [] = refl
length_halves (e ∷ es) = omega (arith, length_halves es)

zeros : (e : ℕ) → e < 257 → (number_of (take 5 (entry-cells e)) ≡ 31 → ⊥) × (number_of (drop 5 (entry-cells e)) ≡ 31 → ⊥)
unfolding entry-cells nibble_codes nibble_cells byte_cells mark_cells bits
zeros e h =
    let left = number_of (take 5 (entry-cells e)) in
    let right = number_of (drop 5 (entry-cells e)) in
    let p = agree_below_at (λ e. not (eqb (number_of (take 5 (entry-cells e))) 31) && not (eqb (number_of (drop 5 (entry-cells e))) 31)) (λ _. true) 257 e refl h in
    let q = and_parts (not (eqb left 31)) (not (eqb right 31)) p in
    (eqb-false left 31 (not-true (eqb left 31) q.0), eqb-false right 31 (not-true (eqb right 31) q.1))

nibbles : (es : List ℕ) → AllByRecursion (λ e. e < 257) es → AllByRecursion Nibble (halves es)
nibbles [] h = tt
nibbles (e ∷ es) (h, hs) =
    let z = zeros e h in
    let l = length-entry e in
    ((length-take-le 5 (entry-cells e) (omega arith), z.0), ((length-drop 5 (entry-cells e) ∙ omega arith, z.1), nibbles es hs))

-- a cell of a nibble
nibble_at : (hs : List (List ℕ)) → AllByRecursion Nibble hs → (m j : ℕ) → m < length hs → j < 5 → get_or (concat hs) (m * 5 + j) 0 ≡ get_or (get_or hs m []) j 0
nibble_at [] a m j h k = absurd (not-suc-le-zero h)
nibble_at (x ∷ hs) (a, more) zero j h k = ap (λ n. get_or (x ++ concat hs) n 0) (omega arith) ∙ get_or_append_left x (concat hs) 0 j (omega (arith, a.0))
nibble_at (x ∷ hs) (a, more) (suc m) j h k =
    get_or-append_right x (concat hs) 5 (suc m * 5 + j) 0 a.0 (omega arith) ∙ ap (λ n. get_or (concat hs) n 0) (omega arith) ∙ nibble_at hs more m j (le_of_suc-le-suc h) k

-- the three ones of the marker, then nibbles
no_nine : (hs : List (List ℕ)) → AllByRecursion Nibble hs → length (concat hs) ≡ length hs * 5 → (k : ℕ) → k + 9 ≤ 3 + length (concat hs) → ((j : ℕ) → j < 9 → get_or (1 ∷ 1 ∷ 1 ∷ concat hs) (k + j) 0 ≡ 1) → ⊥
no_nine hs a l k h one =
    let m = (k + 1) / 5 in
    let lm : m < length hs = omega arith in
    let x = get_or hs m [] in
    let nx : Nibble x = All-get_or Nibble hs m [] lm a in
    let at : (j : ℕ) → j < 5 → get_or x j 0 ≡ 1 = λ j q.
    let f : 3 + (m * 5 + j) ≡ k + (3 + (m * 5 + j) - k) = omega arith in
    sym (nibble_at hs a m j lm q) ∙ sym (cell hs (m * 5 + j)) ∙ ap (λ n. get_or (1 ∷ 1 ∷ 1 ∷ concat hs) n 0) f ∙ one (3 + (m * 5 + j) - k) (omega arith) in
    let e : x ≡ 1 ∷ 1 ∷ 1 ∷ 1 ∷ 1 ∷ [] = ext_get_or 0 x (1 ∷ 1 ∷ 1 ∷ 1 ∷ 1 ∷ []) nx.0 (λ j q. at j (omega (arith, nx.0)) ∙ sym (ones-at j (omega (arith, nx.0)))) in
    nx.1 (ap number_of e)
  where
    cell : (hs : List (List ℕ)) (n : ℕ) → get_or (1 ∷ 1 ∷ 1 ∷ concat hs) (3 + n) 0 ≡ get_or (concat hs) n 0
    cell hs n = get_or-append_right (1 ∷ 1 ∷ 1 ∷ []) (concat hs) 3 (3 + n) 0 refl (omega arith) ∙ ap (λ k. get_or (concat hs) k 0) (omega arith)

    ones-at : (j : ℕ) → j < 5 → get_or {A = ℕ} (1 ∷ 1 ∷ 1 ∷ 1 ∷ 1 ∷ []) j 0 ≡ 1
    ones-at j q = get_or-replicate 5 j 1 0 q

-- the entries of a body are bytes or mark bytes
entries_small : (t : ℕ) (i : Numbered) → t < 256 → Proper i → AllByRecursion (λ e. e < 257) (entries t i)
entries_small t i h p = All-append (λ e. e < 257) (data_entries i.content) (tail_bytes t i) (data_small i.content p.content) (All-weaker (λ e. e < 256) (λ e. e < 257) (λ e q. omega arith) (tail_bytes t i) (tail_small t i h p.most))

no_nine_in_body : (t : ℕ) (i : Numbered) → t < 256 → Proper i → (k : ℕ) → k + 9 ≤ 5183 → ((j : ℕ) → j < 9 → get_or (1 ∷ 1 ∷ 1 ∷ body t i) (k + j) 0 ≡ 1) → ⊥
no_nine_in_body t i h p k l one =
    let es = entries t i in
    let b : body t i ≡ concat (halves es) = body_spelled t i h p ∙ spelled_halves es in
    let lb : length (concat (halves es)) ≡ 5180 = ap (λ (z : List ℕ). length z) (sym b) ∙ length-body t i h p in
    let lh : length (halves es) ≡ 1036 = length_halves es ∙ ap (λ n. n * 2) (length_entries t i p.content) in
    no_nine (halves es) (nibbles es (entries_small t i h p)) (omega arith) k (omega arith) (λ j q. ap (λ (z : List ℕ). get_or (1 ∷ 1 ∷ 1 ∷ z) (k + j) 0) (sym b) ∙ one j q)

pub no_nine_ones : (t : ℕ) (i : Numbered) → t < 256 → Proper i → (k : ℕ) → take 9 (drop k (1 ∷ 1 ∷ 1 ∷ body t i)) ≡ replicate 9 1 → ⊥
no_nine_ones t i h p k e =
    let w = 1 ∷ 1 ∷ 1 ∷ body t i in
    let lb = length-body t i h p in
    let lt = ap (λ (z : List ℕ). length z) e in
    let m = length-take 9 (drop k w) in
    let d = length-drop k w in
    no_nine_in_body t i h p k (omega arith) (λ j q. sym (get_or-drop k w j 0) ∙ sym (get_or-take 9 (drop k w) j 0 q) ∙ ap (λ (z : List ℕ). get_or z j 0) e ∙ get_or-replicate 9 j 1 0 q)

-- the cells of an opening
opening-cell : (c : List ℕ) (p : ℕ) → Opens c p → (j : ℕ) → j < 14 → get_or c (p - 14 + j) 0 ≡ get_or opening j 0
opening-cell c p (l, e) j h = sym (get_or-drop (p - 14) c j 0) ∙ sym (get_or-take 14 (drop (p - 14) c) j 0 h) ∙ ap (λ (z : List ℕ). get_or z j 0) e

opening-ones : (j : ℕ) → j < 9 → get_or opening j 0 ≡ 1
opening-ones j h = get_or_append_left (replicate 9 1) (0 ∷ 0 ∷ 1 ∷ 1 ∷ 1 ∷ []) 0 j h ∙ get_or-replicate 9 j 1 0 h

-- the three ones of the marker and the body, on the track
on_track : (t : ℕ) (c : List ℕ) (p : ℕ) (i : Numbered) → t < 256 → SoundAt t c p i → (n : ℕ) → n < 5183 → get_or (1 ∷ 1 ∷ 1 ∷ body t i) n 0 ≡ get_or c (p - 3 + n) 0
on_track t c p i h s n l =
    let b = body t i in
    let k = s.opens.0 in
    ⊎_elim
    (λ (q : n < 3).
    let f : p - 3 + n ≡ p - 14 + (11 + n) = omega arith in
    let g : 11 + n - 11 ≡ n = omega arith in
    get_or_append_left (1 ∷ 1 ∷ 1 ∷ []) b 0 n q ∙ get_or-replicate 3 n 1 0 q ∙
    sym (ap (λ m. get_or c m 0) f ∙ opening-cell c p s.opens (11 + n) (omega arith) ∙ get_or-append_right (1 ∷ 1 ∷ 1 ∷ 1 ∷ 1 ∷ 1 ∷ 1 ∷ 1 ∷ 1 ∷ 0 ∷ 0 ∷ []) (1 ∷ 1 ∷ 1 ∷ []) 11 (11 + n) 0 refl (omega arith) ∙
    ap (λ m. get_or (1 ∷ 1 ∷ 1 ∷ []) m 0) g ∙ get_or-replicate 3 n 1 0 q))
    (λ (q : 3 ≤ n).
    let w : n - 3 < 5180 = omega arith in
    get_or-append_right (1 ∷ 1 ∷ 1 ∷ []) b 3 n 0 refl q ∙ ap (λ (z : List ℕ). get_or z (n - 3) 0) (sym s.reads) ∙ get_or-take 5180 (drop p c) (n - 3) 0 w ∙ get_or-drop p c (n - 3) 0 ∙
    ap (λ m. get_or c m 0) (omega arith))
    (cases_lt n 3)

pub no_opening-inside : (t : ℕ) (c : List ℕ) (p : ℕ) (i : Numbered) → t < 256 → SoundAt t c p i → (q : ℕ) → p < q → q ≤ p + 5180 → Opens c q → ⊥
no_opening-inside t c p i h s q l r o =
    let k = s.opens.0 in
    let w = o.0 in
    let one : (j : ℕ) → j < 9 → get_or c (q - 14 + j) 0 ≡ 1 = λ j n. opening-cell c q o j (omega arith) ∙ opening-ones j n in
    ⊎_elim
    (λ (n : q < p + 10).
    let z : get_or c (p - 14 + 9) 0 ≡ 0 = opening-cell c p s.opens 9 (lit< tt) in
    let z' : get_or c (p - 14 + 9) 0 ≡ 1 = ap (λ m. get_or c m 0) (omega arith) ∙ one (p + 9 - q) (omega arith) in
    omega arith)
    (λ (n : p + 10 ≤ q). ⊎_elim
    (λ (n' : q < p + 11).
    let z : get_or c (p - 14 + 10) 0 ≡ 0 = opening-cell c p s.opens 10 (lit< tt) in
    let z' : get_or c (p - 14 + 10) 0 ≡ 1 = ap (λ m. get_or c m 0) (omega arith) ∙ one 0 (lit< tt) in
    omega arith)
    (λ (n' : p + 11 ≤ q).
    no_nine_in_body t i h s.proper (q - p - 11) (omega arith)
    (λ j m. on_track t c p i h s (q - p - 11 + j) (omega arith) ∙ ap (λ v. get_or c v 0) (omega arith) ∙ one j m))
    (cases_lt q (p + 11)))
    (cases_lt q (p + 10))
