-- The cells at the places of a track, read byte after byte.
use Rattle.std.specs.Prelude.{◌≡◌, ℕ, suc, ◌+◌, ◌-◌, ◌*◌, ◌<◌, ◌≤◌, min, cond, List, [], ◌∷◌, ◌++◌, length, take, drop, replicate, ◌==◌, slice_index, refl}
use Rattle.std.proofs.Common.{sym, ap, ◌∙◌, inl, inr, arith, take-add}
use Rattle.std.specs.List.{flat_map, sum_by}
use Rattle.std.proofs.lemmas.List.Sums.{sum_by-cons}
use Rattle.std.proofs.lemmas.List.Concat.{flat_map-append}
use Rattle.std.proofs.lemmas.List.{take_at, drop_at, drop-drop, length-drop, take_rest, append_assoc, take-append-drop, take_all, length-append, length-replicate, take_more, flat_map_more, get_or_past, get_or-replicate, get_or_append_left, get_or-append_right, get_or_at}
use Rattle.std.proofs.lemmas.Bool.{eq-eqb, ne_eqb, cases_lt, cases_order}
use Rattle.interval.specs.Intervals.{gap}
use Rattle.interval.specs.Gaps.{WithOne, Copied}
use Rattle.interval.proofs.Spelling.{gap_one, gap_full}

-- zeros at the end change no cell: past the end a cell is read as 0
pub zeros_at : (xs : List ℕ) (z p : ℕ) → slice_index (xs ++ replicate z 0) p ≡ slice_index xs p
zeros_at xs z p = elim (cases_lt p (length xs)) [
  | inl h ↦ get_or_append_left xs (replicate z 0) 0 p h
  | inr h ↦ get_or-append_right xs (replicate z 0) (length xs) p 0 refl h ∙ past (p - length xs) ∙ sym (get_or_past xs p 0 h)
]
  where
    past : (i : ℕ) → ◌≡◌ {A = ℕ} (slice_index (replicate z 0) i) 0
    past i = elim (cases_lt i z) [
      | inl h ↦ get_or-replicate z i 0 0 h
      | inr h ↦ get_or_past (replicate z 0) i 0 (omega (arith, length-replicate {A = ℕ} z 0))
    ]

one_at : (xs : List ℕ) (p : ℕ) → slice_index (xs ++ 1 ∷ []) p ≡ cond (p == length xs) 1 (slice_index xs p)
one_at xs p = elim (cases_order p (length xs)) [
  | inl e ↦ get_or_at xs 1 [] 0 p (sym e) ∙ sym (ap (λ t. cond t 1 (slice_index xs p)) (eq-eqb p (length xs) e))
  | inr (inl h) ↦ get_or_append_left xs (1 ∷ []) 0 p h ∙ sym (ap (λ t. cond t 1 (slice_index xs p)) (ne_eqb p (length xs) (omega arith)))
  | inr (inr h) ↦ get_or_past (xs ++ 1 ∷ []) p 0 (omega (arith, length-append xs (1 ∷ []))) ∙ sym (ap (λ t. cond t 1 (slice_index xs p)) (ne_eqb p (length xs) (omega arith)) ∙ get_or_past xs p 0 (omega arith))
]

-- the cells with one byte more
pub gap_one_at : (xs : List ℕ) (b p : ℕ) → b < 255 → slice_index (xs ++ gap b) p ≡ cond (p == length xs + b) 1 (slice_index xs p)
gap_one_at xs b p h =
    ap (λ (g : List ℕ). slice_index (xs ++ g) p) (gap_one b h)
    ∙ ap (λ (ys : List ℕ). slice_index ys p) (sym (append_assoc xs (replicate b 0) (1 ∷ [])))
    ∙ one_at (xs ++ replicate b 0) p
    ∙ ap (λ (n : ℕ). cond (p == n) 1 (slice_index (xs ++ replicate b 0) p)) (length-append xs (replicate b 0) ∙ ap (λ (n : ℕ). length xs + n) (length-replicate b 0))
    ∙ ap (cond (p == length xs + b) 1) (zeros_at xs b p)

pub gap_full_at : (xs : List ℕ) (b p : ℕ) → b ≡ 255 → slice_index (xs ++ gap b) p ≡ slice_index xs p
gap_full_at xs b p h = ap (λ (g : List ℕ). slice_index (xs ++ g) p) (gap_full b h) ∙ zeros_at xs b p

pub length_gap_one : (xs : List ℕ) (b : ℕ) → b < 255 → length (xs ++ gap b) ≡ length xs + b + 1
length_gap_one xs b h = omega (arith, length-append xs (gap b), ap length (gap_one b h), length-append {A = ℕ} (replicate b 0) (1 ∷ []), length-replicate {A = ℕ} b 0)

pub length_gap_full : (xs : List ℕ) (b : ℕ) → b ≡ 255 → length (xs ++ gap b) ≡ length xs + b
length_gap_full xs b h = omega (arith, length-append xs (gap b), ap length (gap_full b h), length-replicate {A = ℕ} b 0)

pub bytes_split : (i : ℕ) (b : List ℕ) → flat_map gap b ≡ flat_map gap (take i b) ++ flat_map gap (drop i b)
bytes_split i b = ap (flat_map gap) (sym (take-append-drop i b)) ∙ flat_map-append gap (take i b) (drop i b)

pub bytes_more : (i : ℕ) (b : List ℕ) → i < length b → flat_map gap (take (i + 1) b) ≡ flat_map gap (take i b) ++ gap (slice_index b i)
bytes_more i b h = ap (flat_map gap) (take_more b i 0 h) ∙ sym (flat_map_more gap [] (take i b) (slice_index b i))

-- a part of n bytes taken off those that are left from p on
pub record PartPassed (b : List ℕ) (p n : ℕ) (part rest : List ℕ) : Type 0 where
  pub rest_is : rest ≡ drop (p + n) b
  pub within : p + n ≤ length b
  pub cells : length (flat_map gap (take (p + n) b)) ≡ length (flat_map gap (take p b)) + length (flat_map gap part)

pub part_passed : (b part rest : List ℕ) (p n : ℕ) → p ≤ length b → drop p b ≡ part ++ rest → length part ≡ n → PartPassed b p n part rest
part_passed b part rest p n h e l =
    let taken : take n (drop p b) ≡ part = ap (take n) e ∙ take_at part rest n l in
    record {
      rest_is = sym (drop_at part rest n l) ∙ ap (drop n) (sym e) ∙ drop-drop n p b;
      within = omega (arith, ap length e, length-append part rest, length-drop p b);
      cells =
          ap (λ (x : List ℕ). length (flat_map gap x)) (take-add p n b) ∙ ap length (flat_map-append gap (take p b) (take n (drop p b)))
          ∙ length-append (flat_map gap (take p b)) (flat_map gap (take n (drop p b))) ∙ ap (λ (x : List ℕ). length (flat_map gap (take p b)) + length (flat_map gap x)) taken;
    }

-- a cell among those of the first bytes
pub front_at : (i p : ℕ) (b : List ℕ) → p < length (flat_map gap (take i b)) → slice_index (flat_map gap b) p ≡ slice_index (flat_map gap (take i b)) p
front_at i p b h = ap (λ (xs : List ℕ). slice_index xs p) (bytes_split i b) ∙ get_or_append_left (flat_map gap (take i b)) (flat_map gap (drop i b)) 0 p h

-- the ones of the first i bytes are marked: these stand for `begin` cells, and out has what they give from `place` on
pub record SoFar (bytes : List ℕ) (place i begin n : ℕ) (out : List ℕ) : Type 0 where
  pub long : begin ≡ length (flat_map gap (take i bytes))
  pub small : begin ≤ 256 * i
  pub cells : (k : ℕ) → k < n → slice_index out k ≡ slice_index (flat_map gap (take i bytes)) (place + k)

module _ (bytes : List ℕ) (place i begin n : ℕ) (out : List ℕ) (h : SoFar bytes place i begin n out) where
  pub set_one : (new : List ℕ) → i < length bytes → slice_index bytes i < 255 → n ≡ length out → WithOne place (begin + slice_index bytes i) out new
      → SoFar bytes place (i + 1) (begin + slice_index bytes i + 1) n new
  set_one new in' s l m =
      let xs : List ℕ = flat_map gap (take i bytes) in
      let more = bytes_more i bytes in' in
      record {
        long = omega (arith, h.long, ap length more, length_gap_one xs (slice_index bytes i) s);
        small = omega (arith, h.small);
        cells = λ k q.
            m k (omega arith) ∙ ap (λ (x : ℕ). cond (place + k == x + slice_index bytes i) 1 (slice_index out k)) h.long
            ∙ ap (cond (place + k == length xs + slice_index bytes i) 1) (h.cells k q)
            ∙ sym (ap (λ (ys : List ℕ). slice_index ys (place + k)) more ∙ gap_one_at xs (slice_index bytes i) (place + k) s);
      }

  pub set_full : i < length bytes → slice_index bytes i ≡ 255 → SoFar bytes place (i + 1) (begin + slice_index bytes i) n out
  set_full in' s =
      let xs : List ℕ = flat_map gap (take i bytes) in
      let more = bytes_more i bytes in' in
      record {
        long = omega (arith, h.long, ap length more, length_gap_full xs (slice_index bytes i) s);
        small = omega (arith, h.small);
        cells = λ k q. h.cells k q ∙ sym (ap (λ (ys : List ℕ). slice_index ys (place + k)) more ∙ gap_full_at xs (slice_index bytes i) (place + k) s);
      }

  -- there are no more bytes, or they stand for later cells
  pub set_all : length bytes ≤ i → (k : ℕ) → k < n → slice_index out k ≡ slice_index (flat_map gap bytes) (place + k)
  set_all l k q = h.cells k q ∙ ap (λ (xs : List ℕ). slice_index (flat_map gap xs) (place + k)) (take_all i bytes l)

  pub set_past : i < length bytes → slice_index bytes i < 256 → place + n ≤ begin + slice_index bytes i → (k : ℕ) → k < n → slice_index out k ≡ slice_index (flat_map gap bytes) (place + k)
  set_past in' byte l k q =
      let xs : List ℕ = flat_map gap (take i bytes) in
      let more = bytes_more i bytes in' in
      h.cells k q ∙ sym (elim (cases_lt (slice_index bytes i) 255) [
        | inl s ↦
            front_at (i + 1) (place + k) bytes (omega (arith, h.long, ap length more, length_gap_one xs (slice_index bytes i) s))
            ∙ ap (λ (ys : List ℕ). slice_index ys (place + k)) more ∙ gap_one_at xs (slice_index bytes i) (place + k) s
            ∙ ap (λ t. cond t 1 (slice_index xs (place + k))) (ne_eqb (place + k) (length xs + slice_index bytes i) (omega (arith, h.long)))
        | inr s ↦
            front_at (i + 1) (place + k) bytes (omega (arith, h.long, ap length more, length_gap_full xs (slice_index bytes i) (omega arith)))
            ∙ ap (λ (ys : List ℕ). slice_index ys (place + k)) more ∙ gap_full_at xs (slice_index bytes i) (place + k) (omega arith)
      ])

pub set_none : (bytes : List ℕ) (place n m : ℕ) (out : List ℕ) → out ≡ replicate m 0 → SoFar bytes place 0 0 n out
set_none bytes place n m out e = record { long = refl; small = omega arith; cells = λ k h. ap (λ (xs : List ℕ). slice_index xs k) e ∙ zeros_at [] m k }

-- a cell that stands after those of the first bytes
pub back_at : (i p k : ℕ) (b : List ℕ) → k ≡ length (flat_map gap (take i b)) → k ≤ p → slice_index (flat_map gap b) p ≡ slice_index (flat_map gap (drop i b)) (p - k)
back_at i p k b e h = ap (λ (xs : List ℕ). slice_index xs p) (bytes_split i b) ∙ get_or-append_right (flat_map gap (take i b)) (flat_map gap (drop i b)) k p 0 (sym e) h

-- a read that leaves out the first bytes
pub copied_from : (i n place : ℕ) (b old new : List ℕ) → n ≡ length (flat_map gap (take i b)) → n ≤ place → Copied (place - n) (take (length b - i) (drop i b)) old new → Copied place b old new
copied_from i n place b old new e h f k l =
    let at : place - n + k ≡ place + k - n = omega arith in
    f k l ∙ ap (λ (x : List ℕ). slice_index (flat_map gap x) (place - n + k)) (take_rest b i) ∙ ap (λ (p : ℕ). slice_index (flat_map gap (drop i b)) p) at
    ∙ sym (back_at i (place + k) n b e (omega arith))

-- the cells of a byte are counted by one more than the byte, at most 255
length-gap : (b : ℕ) → b < 256 → length (gap b) ≡ min (b + 1) 255
length-gap b byte = elim (cases_lt b 255) [
  | inl s ↦ omega (arith, length_gap_one [] b s)
  | inr s ↦ omega (arith, length_gap_full [] b (omega arith))
]

pub count_is : (b : List ℕ) → ((k : ℕ) → slice_index b k < 256) → sum_by (λ x. min (x + 1) 255) b ≡ length (flat_map gap b)
count_is [] byte = refl
count_is (x ∷ b) byte = omega (arith, sum_by-cons (λ (x : ℕ). min (x + 1) 255) x b, length-append (gap x) (flat_map gap b), length-gap x (byte 0), count_is b (λ k. byte (suc k)))
