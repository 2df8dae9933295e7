-- Cells are read as an item exactly when they are that item's.
use Rattle.std.proofs.Common.{◌≡◌, ℕ, ◌+◌, ◌-◌, ◌*◌, ◌/◌, ◌%◌, ◌<◌, ◌≤◌, false, ◌&&◌, eqb, leb, List, ◌++◌, map, length, get_or, take, drop, None, Ok, sym, ap, ◌∙◌, subst, ⊎_elim, zero-add, arith, lit≤}
use Rattle.std.specs.List.{AllByRecursion}
use Rattle.std.proofs.lemmas.List.{append_assoc, length-append, length-map, take_at, take-append-drop, map-append, get_or-append_right, get_or-map, length-take}
use Rattle.std.proofs.ByRecursion.{All-append, All-get_or, All-weaker}
use Rattle.std.proofs.lemmas.Bool.{cases_lt, ne_eqb, lt-leb, or_from, and_left, and_right}
use Rattle.qic24.specs.Copy.{Numbered, Proper, body, counted, address, two_bytes, item_crc}
use Rattle.qic24.specs.Crc.{crc}
use Rattle.qic24.specs.Decode.{decoded, judged, groups, entry, first_fault, no_code_at, marks_in, byte_of, word_at, number_in, content_in}
use Rattle.qic24.proofs.Register.{crc-below}
use Rattle.qic24.proofs.Judging.{decoded-codes, judged-item}
use Rattle.qic24.proofs.Entries.{spelled, length_spelled, groups_spelled, group_number, entry_of_number, codes_to, plain_bytes, marks-append}
use Rattle.qic24.proofs.Body.{data_entries, tail_bytes, entries, body_spelled, tail_small, length_data, length_entries, data_small, data_counted, marks_of, data_marks, not-mixed, content_back}

pub length-body : (t : ℕ) (i : Numbered) → t < 256 → Proper i → length (body t i) ≡ 5180
length-body t i h p = ap (λ (z : List ℕ). length z) (body_spelled t i h p) ∙ length_spelled (entries t i) ∙ ap (λ n. n * 10) (length_entries t i p.content)

-- an entry that is a byte, or a mark byte in the data, may stand
may_stand : (k e : ℕ) → e < 257 → (512 ≤ k → e < 256) → no_code_at k e ≡ false
may_stand k e h d =
    or_from (eqb e 257) (eqb e 256 && leb 512 k) (ne_eqb e 257 (λ q. omega arith))
    (⊎_elim (λ (l : k < 512). and_right (eqb e 256) (leb 512 k) (lt-leb 512 k l)) (λ (l : 512 ≤ k). and_left (eqb e 256) (leb 512 k) (ne_eqb e 256 (λ q. let s = d l in omega arith))) (cases_lt k 512))

length-counted : (x : List ℕ) (y : List ℕ) → map byte_of (map group_number x) ≡ y → length y ≡ length x
length-counted x y e = ap (λ (z : List ℕ). length z) (sym e) ∙ length-map (map group_number x) byte_of ∙ length-map x group_number

module _ (t : ℕ) (i : Numbered) (h : t < 256) (p : Proper i) where
  read : (j : ℕ) → j < 518 → entry (get_or (map group_number (entries t i)) j 0) ≡ get_or (entries t i) j 0
  read j k =
      let l = length_entries t i p.content in
      let small : AllByRecursion (λ e. e < 257) (entries t i) = All-append (λ e. e < 257) (data_entries i.content) (tail_bytes t i) (data_small i.content p.content)
      (All-weaker (λ e. e < 256) (λ e. e < 257) (λ e q. omega arith) (tail_bytes t i) (tail_small t i h p.most)) in
      ap entry (get_or-map group_number (entries t i) j 0 0 (omega arith)) ∙ entry_of_number (get_or (entries t i) j 0) (All-get_or (λ e. e < 257) (entries t i) j 0 (omega arith) small)

  stands : (j : ℕ) → j < 518 → no_code_at j (get_or (entries t i) j 0) ≡ false
  stands j k =
      let l = length_entries t i p.content in
      let ld = length_data i.content p.content in
      let small : AllByRecursion (λ e. e < 257) (entries t i) = All-append (λ e. e < 257) (data_entries i.content) (tail_bytes t i) (data_small i.content p.content)
      (All-weaker (λ e. e < 256) (λ e. e < 257) (λ e q. omega arith) (tail_bytes t i) (tail_small t i h p.most)) in
      may_stand j (get_or (entries t i) j 0) (All-get_or (λ e. e < 257) (entries t i) j 0 (omega arith) small)
      (λ q. subst (λ e. e < 256) (sym (get_or-append_right (data_entries i.content) (tail_bytes t i) 512 j 0 ld q)) (All-get_or (λ e. e < 256) (tail_bytes t i) (j - 512) 0 (omega arith) (tail_small t i h p.most)))

  no_fault : first_fault 0 (map group_number (entries t i)) ≡ None
  no_fault = codes_to (map group_number (entries t i)) 0
      (λ j q. let l = length-map (entries t i) group_number ∙ length_entries t i p.content in
      let k : j < 518 = omega arith in
      ap (λ n. no_code_at n (entry (get_or (map group_number (entries t i)) j 0))) (zero-add j) ∙ ap (no_code_at j) (read j k) ∙ stands j k)

  -- the bytes that they read as
  bytes-are : map byte_of (map group_number (entries t i)) ≡ counted i.content ++ tail_bytes t i
  bytes-are =
      ap (map byte_of) (map-append group_number (data_entries i.content) (tail_bytes t i)) ∙ map-append byte_of (map group_number (data_entries i.content)) (map group_number (tail_bytes t i)) ∙
      ap (λ (z : List ℕ). z ++ map byte_of (map group_number (tail_bytes t i))) (data_counted i.content p.content) ∙
      ap (λ (z : List ℕ). counted i.content ++ z) (plain_bytes (tail_bytes t i) (tail_small t i h p.most)).0

  marks-are : marks_in (map group_number (entries t i)) ≡ marks_of i.content
  marks-are =
      ap marks_in (map-append group_number (data_entries i.content) (tail_bytes t i)) ∙ marks-append (map group_number (data_entries i.content)) (map group_number (tail_bytes t i)) ∙
      omega (arith, data_marks i.content p.content, (plain_bytes (tail_bytes t i) (tail_small t i h p.most)).1)

  judged_back : judged t (marks_of i.content) (counted i.content ++ tail_bytes t i) ≡ Ok i
  judged_back =
      let d = counted i.content in
      let n = i.number in
      let a = address t n in
      let k = item_crc t i in
      let bs = d ++ tail_bytes t i in
      let ld : length d ≡ 512 = length-counted (data_entries i.content) d (data_counted i.content p.content) ∙ length_data i.content p.content in
      let kb = crc-below (d ++ a) in
      let least = p.least in
      let most = p.most in
      let b512 : get_or bs 512 0 ≡ t = get_or-append_right d (tail_bytes t i) 512 512 0 ld (lit≤ tt) in
      let b513 : get_or bs 513 0 ≡ n / 0x10000 = get_or-append_right d (tail_bytes t i) 512 513 0 ld (lit≤ tt) in
      let b514 : get_or bs 514 0 ≡ n / 0x100 % 0x100 = get_or-append_right d (tail_bytes t i) 512 514 0 ld (lit≤ tt) in
      let b515 : get_or bs 515 0 ≡ n % 0x100 = get_or-append_right d (tail_bytes t i) 512 515 0 ld (lit≤ tt) in
      let b516 : get_or bs 516 0 ≡ k / 0x100 = get_or-append_right d (tail_bytes t i) 512 516 0 ld (lit≤ tt) in
      let b517 : get_or bs 517 0 ≡ k % 0x100 = get_or-append_right d (tail_bytes t i) 512 517 0 ld (lit≤ tt) in
      let la : length (d ++ a) ≡ 516 = length-append d a ∙ ap (λ m. m + 4) ld in
      let t516 : take 516 bs ≡ d ++ a = ap (take 516) (sym (append_assoc d a (two_bytes k))) ∙ take_at (d ++ a) (two_bytes k) 516 la in
      let t512 : take 512 bs ≡ d = take_at d (tail_bytes t i) 512 ld in
      let word : word_at bs 516 ≡ k = omega arith in
      let num : number_in bs ≡ n = omega arith in
      judged-item t (marks_of i.content) bs (not-mixed i.content) (ap crc t516 ∙ sym word) b512 (omega arith) (λ q. omega arith) ∙
      ap (λ m. Ok (record { number = m; content = content_in (marks_of i.content) bs })) num ∙ ap (λ x. Ok (record { number = n; content = x })) (content_back i.content bs t512)

  pub reads_back : (c : List ℕ) → take 5180 c ≡ body t i → decoded t c ≡ Ok i
  reads_back c e =
      let es = entries t i in
      let lb = length-body t i h p in
      let lc : 5180 ≤ length c = let m = length-take 5180 c in let q = ap (λ (z : List ℕ). length z) e in omega arith in
      let le = length_entries t i p.content in
      let cs : c ≡ spelled es ++ drop 5180 c = sym (take-append-drop 5180 c) ∙ ap (λ (z : List ℕ). z ++ drop 5180 c) (e ∙ body_spelled t i h p) in
      let g : groups 518 c ≡ map group_number es = ap (groups 518) cs ∙ ap (λ n. groups n (spelled es ++ drop 5180 c)) (sym le) ∙ groups_spelled es (drop 5180 c) in
      decoded-codes t c lc (ap (first_fault 0) g ∙ no_fault) ∙ ap (λ (z : List ℕ). judged t (marks_in z) (map byte_of z)) g ∙
      ap (λ m. judged t m (map byte_of (map group_number es))) marks-are ∙ ap (judged t (marks_of i.content)) bytes-are ∙ judged_back
