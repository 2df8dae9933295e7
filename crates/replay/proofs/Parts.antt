-- What a part of a track, read from a cartridge, tells of the track.
use Rattle.std.proofs.Common.{◌≡◌, ℕ, zero, suc, ◌+◌, ◌-◌, ◌*◌, ◌<◌, ◌≤◌, min, cond, ltb, leb, List, [], ◌∷◌, map, length, take, drop, Ok, Err, Result, sym, refl, ap, ◌∙◌, ⊎_elim, arith, length-take}
use Rattle.std.specs.List.{AllByRecursion}
use Rattle.std.proofs.ByRecursion.{All-take, All-drop}
use Rattle.std.proofs.lemmas.List.{get_or_past, take_all, take-take, drop-take, drop-drop}
use Rattle.std.proofs.lemmas.Bool.{cases_lt, cond-true, cond-false, lt-ltb, le-ltb, le-leb}
use Rattle.qic24.specs.Cells.{number_of}
use Rattle.qic24.specs.Decode.{decoded, by_groups, groups, first_fault}
use Rattle.qic24.specs.Opening.{Opens}
use Rattle.tape.specs.Calls.{read_answer}
use Rattle.tape.specs.Tape.{Tape, track, Cell, cell}
use Rattle.tape.specs.declared.refusal.Refusal.{Refusal}
use Rattle.tape.specs.declared.refusal.Refusal.TheVariants.{NoTrack, PastEnd}
use Rattle.replay.specs.Scan.{read_here}

-- there are no cells on a track that is not there
pub gone_empty : (c : Tape) (t : ℕ) → length c ≤ t → length (track c t) ≡ 0
gone_empty c t h = ap length (get_or_past c t [] h)

-- a read of no more cells than there are is refused only where it is of none
pub read-refused : (c : Tape) (t p n : ℕ) (e : Refusal) → Err e ≡ read_answer c t p n → n ≤ length (track c t) - p → n ≡ 0
read-refused c t p n e q l = ⊎_elim
    (λ (h : t < length c). ⊎_elim
    (λ (k : length (track c t) < p + n). omega arith)
    (λ (k : p + n ≤ length (track c t)).
    let a : ◌≡◌ {A = Result (Unit {0}) Refusal} (Err e) (Ok tt) =
    q ∙ (cond-true (ltb t (length c)) (cond (leb (p + n) (length (track c t))) (Ok tt) (Err PastEnd)) (Err NoTrack) (lt-ltb t (length c) h) ∙ cond-true (leb (p + n) (length (track c t))) (Ok tt) (Err PastEnd) (le-leb (p + n) (length (track c t)) k)) in
    let z : ◌≡◌ {A = ℕ} 0 1 = cc in absurd (omega arith))
    (cases_lt (length (track c t)) (p + n)))
    (λ (h : length c ≤ t). omega (arith, gone_empty c t h))
    (cases_lt t (length c))

-- a cell is read as itself
pub map-cell : (xs : List ℕ) → AllByRecursion Cell xs → map cell xs ≡ xs
map-cell [] h = refl
map-cell (zero ∷ xs) h = ap (λ (z : List ℕ). 0 ∷ z) (map-cell xs h.1)
map-cell (suc zero ∷ xs) h = ap (λ (z : List ℕ). 1 ∷ z) (map-cell xs h.1)
map-cell (suc (suc x) ∷ xs) h = absurd (omega (arith, h.0))

pub part_cells : (n p : ℕ) (c : List ℕ) → AllByRecursion Cell c → map cell (take n (drop p c)) ≡ take n (drop p c)
part_cells n p c h = map-cell (take n (drop p c)) (All-take Cell n (drop p c) (All-drop Cell p c h))

-- the fourteen cells before the place q of the n cells from s on
inside : (c : List ℕ) (s n q : ℕ) → q ≤ n → 14 ≤ q → take 14 (drop (q - 14) (take n (drop s c))) ≡ take 14 (drop (s + q - 14) c)
inside c s n q l k =
    let a : q - 14 + (n - (q - 14)) ≡ n = omega arith in
    let b : s + (q - 14) ≡ s + q - 14 = omega arith in
    ap (λ (m : ℕ). take 14 (drop (q - 14) (take m (drop s c)))) (sym a) ∙ (ap (take 14) (drop-take (q - 14) (n - (q - 14)) (drop s c)) ∙ (take-take 14 (n - (q - 14)) (drop (q - 14) (drop s c)) (omega arith) ∙
    (ap (take 14) (drop-drop (q - 14) s c) ∙ ap (λ (m : ℕ). take 14 (drop m c)) b)))

-- an opening of the part is one of the track, and the other way round
pub part_opens : (c : List ℕ) (s n q : ℕ) → q ≤ n → Opens (take n (drop s c)) q → Opens c (s + q)
part_opens c s n q l (k, e) = (omega arith, sym (inside c s n q l k) ∙ e)

pub opens_part : (c : List ℕ) (s n q : ℕ) → q ≤ n → 14 ≤ q → Opens c (s + q) → Opens (take n (drop s c)) q
opens_part c s n q l k o = (k, inside c s n q l k ∙ o.1)

groups_front : (n : ℕ) (c : List ℕ) → groups n (take (n * 10) c) ≡ groups n c
unfolding groups
groups_front zero c = refl
groups_front (suc n) c =
    let m : suc n * 10 ≡ 10 + n * 10 = omega arith in
    ap (λ (k : ℕ). number_of (take 10 (take k c)) ∷ groups n (drop 10 (take k c))) m ∙
    (ap (λ (z : List ℕ). number_of z ∷ groups n (drop 10 (take (10 + n * 10) c))) (take-take 10 (10 + n * 10) c (omega arith)) ∙
    (ap (λ (z : List ℕ). number_of (take 10 c) ∷ groups n z) (drop-take 10 (n * 10) c) ∙ ap (λ (z : List ℕ). number_of (take 10 c) ∷ z) (groups_front n (drop 10 c))))

-- decoding looks at 5,180 cells
pub decoded_front : (t : ℕ) (c : List ℕ) → decoded t (take 5180 c) ≡ decoded t c
decoded_front t c = ⊎_elim
    (λ (h : length c < 5180). ap (decoded t) (take_all 5180 c (omega arith)))
    (λ (h : 5180 ≤ length c).
    let l : 5180 ≤ length (take 5180 c) = omega (arith, length-take 5180 c) in
    long (take 5180 c) l ∙ (ap (λ (g : List ℕ). by_groups t g (first_fault 0 g)) (groups_front 518 c) ∙ sym (long c h)))
    (cases_lt (length c) 5180)
  where
    long : (d : List ℕ) → 5180 ≤ length d → decoded t d ≡ by_groups t (groups 518 d) (first_fault 0 (groups 518 d))
    long d h = cond-false (ltb (length d) 5180) _ _ (le-ltb (length d) 5180 h)

-- as many as a buffer takes, of those that there are
pub take-least : (m n : ℕ) (c : List ℕ) → n ≡ min m (length c) → take n c ≡ take m c
take-least m n c e = ⊎_elim
    (λ (h : length c < m). take_all n c (omega arith) ∙ sym (take_all m c (omega arith)))
    (λ (h : m ≤ length c). let k : n ≡ m = omega arith in ap (λ (j : ℕ). take j c) k)
    (cases_lt (length c) m)

-- what the cells that were read are decoded as
pub read-decoded : (t p : ℕ) (c bs : List ℕ) → AllByRecursion Cell c → bs ≡ take 5180 (drop p c) → decoded t (map cell bs) ≡ read_here t c p
unfolding read_here
read-decoded t p c bs h q = ap (λ (z : List ℕ). decoded t (map cell z)) q ∙ (ap (decoded t) (part_cells 5180 p c h) ∙ decoded_front t (drop p c))
