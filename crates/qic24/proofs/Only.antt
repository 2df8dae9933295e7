-- Cells that are read as an item are that item's.
use Rattle.std.proofs.Common.{◌≡◌, ℕ, ◌+◌, ◌*◌, ◌/◌, ◌%◌, ◌<◌, ◌≤◌, false, not, ◌&&◌, eqb, leb, List, [], ◌∷◌, ◌++◌, map, length, get_or, take, drop, replicate, None, Ok, sym, refl, ap, ◌∙◌, subst, ⊎_elim, zero-add, arith, lit≤}
use Rattle.std.specs.List.{AllByRecursion}
use Rattle.std.proofs.lemmas.List.{append_assoc, length-append, length-map, length-drop, length-take-le, take_at, take-append-drop, map-append, get_or-append_right, get_or-drop}
use Rattle.std.proofs.ByRecursion.{All-get_or, All-from_get_or, All-take, All-weaker}
use Rattle.std.proofs.lemmas.Bool.{cases_eq, ne_eqb, eq-eqb, le-leb, or_parts, and_cases, eqb-false, eqb-true, cond-true, cond-false, not-false, both_ways}
use Rattle.qic24.specs.Cells.{Cell}
use Rattle.qic24.specs.Copy.{Numbered, Proper, ProperContent, body, counted, mark_counts, address, two_bytes, item_crc}
use Rattle.qic24.specs.Crc.{crc}
use Rattle.qic24.specs.Decode.{decoded, groups, entry, first_fault, no_code_at, marks_in, byte_of, mixed, word_at, number_in, content_in}
use Rattle.qic24.specs.declared.item.Content.{Content}
use Rattle.qic24.specs.declared.item.Content.TheVariants.{Block, Mark}
use Rattle.qic24.proofs.Groups.{length-groups, code_small}
use Rattle.qic24.proofs.Judging.{JudgedOk, DecodedOk, decoded-ok}
use Rattle.qic24.proofs.Entries.{spelled, spelled_groups, codes-from, marks-none, marks-all, marks-append}
use Rattle.qic24.proofs.Body.{mark_entries, data_entries, tail_bytes, entries, body_spelled}

-- a code past the data is a byte
byte_there : (k e : ℕ) → no_code_at k e ≡ false → 512 ≤ k → e ≤ 256 → e < 256
byte_there k e h l s =
    let p = or_parts (eqb e 257) (eqb e 256 && leb 512 k) h in
    ⊎_elim (λ q. let ne = eqb-false e 256 q in grind arith) (λ q. absurd (both_ways (leb 512 k) q (le-leb 512 k l))) (and_cases (eqb e 256) (leb 512 k) p.1)

-- what the data of such cells hold: X are the groups of the data, and bs all bytes
pub record Data (X bs : List ℕ) (x : Content) : Type 0 where
  pub proper : ProperContent x
  pub same : data_entries x ≡ map entry X
  pub counts : counted x ≡ map byte_of X

marks_data : (X bs : List ℕ) (n : ℕ) → length X ≡ n → n ≡ 512 → marks_in X ≡ n → Data X bs Mark
unfolding mark_entries mark_counts
marks_data X bs n l e m =
    let a = marks-all X (m ∙ sym l) in
    record { proper = tt; same = sym (a.1 ∙ ap (λ k. replicate k 256) (l ∙ e)); counts = sym (a.0 ∙ ap (λ k. replicate k 0xFF) (l ∙ e)) }

data_of : (X bs : List ℕ) (m : ℕ) → length X ≡ 512 → take 512 bs ≡ map byte_of X → AllByRecursion (λ g. entry g ≤ 256) X → marks_in X ≡ m → mixed m ≡ false → Data X bs (content_in m bs)
data_of X bs m l e a k q =
    ⊎_elim
    (λ (z : m ≡ 0).
    let n = marks-none X (k ∙ z) a in
    let s : content_in m bs ≡ Block (take 512 bs) = cond-true (eqb m 0) (Block (take 512 bs)) Mark (eq-eqb m 0 z) in
    let b : take 512 bs ≡ map entry X = e ∙ n.0 in
    subst (Data X bs) (sym s)
    (record { proper = (ap (λ (z : List ℕ). length z) b ∙ length-map X entry ∙ l, subst (AllByRecursion (λ b. b < 256)) (sym b) n.1); same = b; counts = e }))
    (λ (z : m ≡ 0 → ⊥).
    let s : content_in m bs ≡ Mark = cond-false (eqb m 0) (Block (take 512 bs)) Mark (ne_eqb m 0 z) in
    let w : m ≡ 512 = ⊎_elim (λ p. absurd (z (eqb-true m 0 (not-false (eqb m 0) p)))) (λ p. eqb-true m 512 (not-false (eqb m 512) p)) (and_cases (not (eqb m 0)) (not (eqb m 512)) q) in
    subst (Data X bs) (sym s) (marks_data X bs 512 l refl (k ∙ w)))
    (cases_eq m 0)

-- the six bytes after the data D are those of the item that they tell
six_bytes : (t : ℕ) (D : List ℕ) (x : Content) (a b c d f g : ℕ) → length D ≡ 512 → counted x ≡ D → b < 256 → c < 256 → d < 256 → f < 256 → g < 256 →
    crc (D ++ (a ∷ b ∷ c ∷ d ∷ [])) ≡ f * 256 + g → a ≡ t → b / 16 ≡ 0 →
    tail_bytes t (record { number = b % 16 * 65536 + (c * 256 + d); content = x }) ≡ a ∷ b ∷ c ∷ d ∷ f ∷ g ∷ []
six_bytes t D x a b c d f g l e hb hc hd hf hg k ta ctl =
    let n = b % 16 * 65536 + (c * 256 + d) in
    let nb : n / 65536 ≡ b = omega arith in
    let nc : n / 256 % 256 ≡ c = omega arith in
    let nd : n % 256 ≡ d = omega arith in
    let ad : address t n ≡ a ∷ b ∷ c ∷ d ∷ [] =
    ap (λ z. z ∷ n / 65536 ∷ n / 256 % 256 ∷ n % 256 ∷ []) (sym ta) ∙ ap (λ z. a ∷ z ∷ n / 256 % 256 ∷ n % 256 ∷ []) nb ∙ ap (λ z. a ∷ b ∷ z ∷ n % 256 ∷ []) nc ∙ ap (λ z. a ∷ b ∷ c ∷ z ∷ []) nd in
    let cr : item_crc t (record { number = n; content = x }) ≡ f * 256 + g = ap (λ (z : List ℕ). crc (z ++ address t n)) e ∙ ap (λ (z : List ℕ). crc (D ++ z)) ad ∙ k in
    let kf : (f * 256 + g) / 256 ≡ f = omega arith in
    let kg : (f * 256 + g) % 256 ≡ g = omega arith in
    ap (λ (z : List ℕ). z ++ two_bytes (item_crc t (record { number = n; content = x }))) ad ∙ ap (λ v. a ∷ b ∷ c ∷ d ∷ two_bytes v) cr ∙ ap (λ v. a ∷ b ∷ c ∷ d ∷ v ∷ (f * 256 + g) % 256 ∷ []) kf ∙ ap (λ v. a ∷ b ∷ c ∷ d ∷ f ∷ v ∷ []) kg

tail_of : (t : ℕ) (D T : List ℕ) (x : Content) → length D ≡ 512 → length T ≡ 6 → AllByRecursion (λ b. b < 256) T → counted x ≡ D →
    crc (take 516 (D ++ T)) ≡ word_at (D ++ T) 516 → get_or (D ++ T) 512 0 ≡ t → get_or (D ++ T) 513 0 / 16 ≡ 0 →
    tail_bytes t (record { number = number_in (D ++ T); content = x }) ≡ T
tail_of t D [] x l m h e k ta ctl = absurd (omega arith)
tail_of t D (a ∷ []) x l m h e k ta ctl = absurd (omega arith)
tail_of t D (a ∷ b ∷ []) x l m h e k ta ctl = absurd (omega arith)
tail_of t D (a ∷ b ∷ c ∷ []) x l m h e k ta ctl = absurd (omega arith)
tail_of t D (a ∷ b ∷ c ∷ d ∷ []) x l m h e k ta ctl = absurd (omega arith)
tail_of t D (a ∷ b ∷ c ∷ d ∷ f ∷ []) x l m h e k ta ctl = absurd (omega arith)
tail_of t D (a ∷ b ∷ c ∷ d ∷ f ∷ g ∷ q ∷ T) x l m h e k ta ctl = absurd (omega arith)
tail_of t D (a ∷ b ∷ c ∷ d ∷ f ∷ g ∷ []) x l m (ha, (hb, (hc, (hd, (hf, (hg, _)))))) e k ta ctl =
    let T = a ∷ b ∷ c ∷ d ∷ f ∷ g ∷ [] in
    let a' : get_or (D ++ T) 512 0 ≡ a = get_or-append_right D T 512 512 0 l (lit≤ tt) in
    let b' : get_or (D ++ T) 513 0 ≡ b = get_or-append_right D T 512 513 0 l (lit≤ tt) in
    let c' : get_or (D ++ T) 514 0 ≡ c = get_or-append_right D T 512 514 0 l (lit≤ tt) in
    let d' : get_or (D ++ T) 515 0 ≡ d = get_or-append_right D T 512 515 0 l (lit≤ tt) in
    let f' : get_or (D ++ T) 516 0 ≡ f = get_or-append_right D T 512 516 0 l (lit≤ tt) in
    let g' : get_or (D ++ T) 517 0 ≡ g = get_or-append_right D T 512 517 0 l (lit≤ tt) in
    let n : number_in (D ++ T) ≡ b % 16 * 65536 + (c * 256 + d) = ap (λ z. z % 16 * 65536 + word_at (D ++ T) 514) b' ∙ ap (λ z. b % 16 * 65536 + (z * 256 + get_or (D ++ T) 515 0)) c' ∙ ap (λ z. b % 16 * 65536 + (c * 256 + z)) d' in
    let w : word_at (D ++ T) 516 ≡ f * 256 + g = ap (λ z. z * 256 + get_or (D ++ T) 517 0) f' ∙ ap (λ z. f * 256 + z) g' in
    let ld : length (D ++ (a ∷ b ∷ c ∷ d ∷ [])) ≡ 516 = length-append D (a ∷ b ∷ c ∷ d ∷ []) ∙ ap (λ z. z + 4) l in
    let s : take 516 (D ++ T) ≡ D ++ (a ∷ b ∷ c ∷ d ∷ []) = ap (take 516) (sym (append_assoc D (a ∷ b ∷ c ∷ d ∷ []) (f ∷ g ∷ []))) ∙ take_at (D ++ (a ∷ b ∷ c ∷ d ∷ [])) (f ∷ g ∷ []) 516 ld in
    ap (λ z. tail_bytes t (record { number = z; content = x })) n ∙
    six_bytes t D x a b c d f g l e hb hc hd hf hg (ap crc (sym s) ∙ k ∙ w) (sym a' ∙ ta) (ap (λ z. z / 16) (sym b') ∙ ctl)

-- groups past the data hold no mark byte
no_marks : (Y : List ℕ) → AllByRecursion (λ g. entry g < 256) Y → marks_in Y ≡ 0
no_marks [] h = refl
no_marks (g ∷ Y) (h, hs) = ap (λ n. n + marks_in Y) (cond-false (eqb (entry g) 256) 1 0 (ne_eqb (entry g) 256 (λ q. omega arith))) ∙ omega (arith, no_marks Y hs)

positive : (n : ℕ) → (n ≡ 0 → ⊥) → 1 ≤ n
positive n h = grind arith

byte_past : (gs : List ℕ) (k : ℕ) → ((k : ℕ) → k < 518 → no_code_at k (entry (get_or gs k 0)) ≡ false) → k < 6 → entry (get_or gs (512 + k) 0) < 256
byte_past gs k code h =
    let l : 512 + k < 518 = omega arith in
    byte_there (512 + k) (entry (get_or gs (512 + k) 0)) (code (512 + k) l) (omega arith) (code_small (512 + k) (get_or gs (512 + k) 0) (code (512 + k) l))

number-most : (bs : List ℕ) → get_or bs 514 0 < 256 → get_or bs 515 0 < 256 → number_in bs ≤ 1048575
number-most bs h k = omega arith

-- the item that X, the groups of the data, and Y, those after it, are read as
item_of : (t : ℕ) (X Y : List ℕ) (i : Numbered) → length X ≡ 512 → length Y ≡ 6 → AllByRecursion (λ g. entry g ≤ 256) X → AllByRecursion (λ g. entry g < 256) Y →
    JudgedOk t (marks_in (X ++ Y)) (map byte_of (X ++ Y)) i → Proper i × (entries t i ≡ map entry (X ++ Y))
item_of t X Y i lX lY hX hY j =
    let noY = no_marks Y hY in
    let D = map byte_of X in
    let T = map entry Y in
    let nY = marks-none Y noY (All-weaker (λ g. entry g < 256) (λ g. entry g ≤ 256) (λ g q. omega arith) Y hY) in
    let split : map byte_of (X ++ Y) ≡ D ++ T = map-append byte_of X Y ∙ ap (λ (z : List ℕ). D ++ z) nY.0 in
    let lD : length D ≡ 512 = length-map X byte_of ∙ lX in
    let lT : length T ≡ 6 = length-map Y entry ∙ lY in
    let mX : marks_in X ≡ marks_in (X ++ Y) = sym (marks-append X Y ∙ omega arith) in
    by (map byte_of (X ++ Y)) (marks_in (X ++ Y)) D T lD lT split nY.1 mX refl refl j
  where
    by : (bs : List ℕ) (m : ℕ) (D T : List ℕ) → length D ≡ 512 → length T ≡ 6 → bs ≡ D ++ T → AllByRecursion (λ b. b < 256) T → marks_in X ≡ m → D ≡ map byte_of X → T ≡ map entry Y → JudgedOk t m bs i →
        Proper i × (data_entries i.content ++ tail_bytes t i ≡ map entry (X ++ Y))
    by bs m D T lD lT split small mX eD eT j₀ =
        let j = subst (λ z. JudgedOk t m z i) split j₀ in
        let n = number_in (D ++ T) in
        let x = content_in m (D ++ T) in
        let dat = data_of X (D ++ T) m lX (take_at D T 512 lD ∙ eD) hX mX j.kind in
        let tl : tail_bytes t (record { number = n; content = x }) ≡ T = tail_of t D T x lD lT small (dat.counts ∙ sym eD) j.check j.on_track j.control in
        let h514 : get_or (D ++ T) 514 0 < 256 = subst (λ z. z < 256) (sym (get_or-append_right D T 512 514 0 lD (lit≤ tt))) (All-get_or (λ b. b < 256) T 2 0 (omega arith) small) in
        let h515 : get_or (D ++ T) 515 0 < 256 = subst (λ z. z < 256) (sym (get_or-append_right D T 512 515 0 lD (lit≤ tt))) (All-get_or (λ b. b < 256) T 3 0 (omega arith) small) in
        let nz = j.nonzero in
        let pr : Proper (record { number = n; content = x }) = record { content = dat.proper; least = positive n nz; most = number-most (D ++ T) h514 h515 } in
        let en : data_entries x ++ tail_bytes t (record { number = n; content = x }) ≡ map entry (X ++ Y) =
        ap (λ (z : List ℕ). data_entries x ++ z) (tl ∙ eT) ∙ ap (λ (z : List ℕ). z ++ map entry Y) dat.same ∙ sym (map-append entry X Y) in
        subst (λ (i : Numbered). Proper i × (data_entries i.content ++ tail_bytes t i ≡ map entry (X ++ Y))) (sym j.item) (pr, en)

pub reads_only : (t : ℕ) (c : List ℕ) (i : Numbered) → t < 256 → AllByRecursion Cell c → decoded t c ≡ Ok i → Proper i × (take 5180 c ≡ body t i)
reads_only t c i h cs e = by (groups 518 c) refl (decoded-ok t c i e)
  where
    by : (gs : List ℕ) → groups 518 c ≡ gs → DecodedOk t c i → Proper i × (take 5180 c ≡ body t i)
    by gs q d =
        let lg : length gs ≡ 518 = ap (λ (z : List ℕ). length z) (sym q) ∙ length-groups 518 c in
        let codes : first_fault 0 gs ≡ None = ap (first_fault 0) (sym q) ∙ d.codes in
        let code : (k : ℕ) → k < 518 → no_code_at k (entry (get_or gs k 0)) ≡ false = λ k r. ap (λ z. no_code_at z (entry (get_or gs k 0))) (sym (zero-add k)) ∙ codes-from gs 0 codes k (omega arith) in
        let small : AllByRecursion (λ g. entry g ≤ 256) gs = All-from_get_or (λ g. entry g ≤ 256) gs 0 (λ k r. code_small k (get_or gs k 0) (code k (omega arith))) in
        let lY : length (drop 512 gs) ≡ 6 = length-drop 512 gs ∙ omega arith in
        let past : AllByRecursion (λ g. entry g < 256) (drop 512 gs) = All-from_get_or (λ g. entry g < 256) (drop 512 gs) 0
        (λ k r. subst (λ g. entry g < 256) (sym (get_or-drop 512 gs k 0)) (byte_past gs k code (omega arith))) in
        let g = take-append-drop 512 gs in
        let r = item_of t (take 512 gs) (drop 512 gs) i (length-take-le 512 gs (omega arith)) lY (All-take (λ g. entry g ≤ 256) 512 gs small) past
        (subst (λ (z : List ℕ). JudgedOk t (marks_in z) (map byte_of z) i) (q ∙ sym g) d.judging) in
        let s : spelled (map entry gs) ≡ take 5180 c = ap (λ (z : List ℕ). spelled (map entry z)) (sym q) ∙ spelled_groups 518 c cs d.long (subst (AllByRecursion (λ g. entry g ≤ 256)) (sym q) small) in
        (r.0, sym s ∙ ap (λ (z : List ℕ). spelled (map entry z)) (sym g) ∙ ap spelled (sym r.1) ∙ sym (body_spelled t i h r.0))
