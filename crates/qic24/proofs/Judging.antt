-- The first cause, case by case.
use Rattle.std.proofs.Common.{◌≡◌, ℕ, ◌/◌, ◌<◌, ◌≤◌, Bool, true, false, cond, ◌&&◌, ltb, leb, List, map, length, get_or, take, Some, None, Ok, Err, Option, Result, sym, refl, ap, ◌∙◌, ⊎_elim, arith}
use Rattle.std.proofs.lemmas.Bool.{lt-ltb, le-ltb, eq-eqb, ne_eqb, cond-true, cond-false, and_parts, leb-true, leb-false, le-leb, cases_eq, cases_Bool, cases_lt}
use Rattle.std.specs.Option.{option_map, ok_or}
use Rattle.qic24.specs.Copy.{Numbered, item_from, held}
use Rattle.qic24.specs.declared.item.Item.{Item}
use Rattle.qic24.specs.declared.item.Content.{Content}
use Rattle.qic24.specs.Crc.{crc}
use Rattle.qic24.specs.Decode.{decoded, by_groups, judged, groups, first_fault, byte_of, marks_in, mixed, word_at, number_in, content_in, mapped_ok}
use Rattle.qic24.specs.declared.fault.CopyFault.{CopyFault}
use Rattle.qic24.specs.declared.fault.CopyFault.TheVariants.{TrackEnds, Group, Mixed, Check, OtherTrack, Control, NumberZero}
use Rattle.qic24.specs.declared.fault.GroupFault.{GroupFault}

pub decoded-short : (t : ℕ) (c : List ℕ) → length c < 5180 → decoded t c ≡ Err TrackEnds
decoded-short t c h = cond-true (ltb (length c) 5180) (Err TrackEnds) (by_groups t (groups 518 c) (first_fault 0 (groups 518 c))) (lt-ltb (length c) 5180 h)

long : (t : ℕ) (c : List ℕ) → 5180 ≤ length c → decoded t c ≡ by_groups t (groups 518 c) (first_fault 0 (groups 518 c))
long t c h = cond-false (ltb (length c) 5180) (Err TrackEnds) (by_groups t (groups 518 c) (first_fault 0 (groups 518 c))) (le-ltb (length c) 5180 h)

pub decoded_fault : (t : ℕ) (c : List ℕ) (f : GroupFault) → 5180 ≤ length c → first_fault 0 (groups 518 c) ≡ Some f → decoded t c ≡ Err (Group f)
decoded_fault t c f h e = long t c h ∙ ap (by_groups t (groups 518 c)) e

pub decoded-codes : (t : ℕ) (c : List ℕ) → 5180 ≤ length c → first_fault 0 (groups 518 c) ≡ None → decoded t c ≡ judged t (marks_in (groups 518 c)) (map byte_of (groups 518 c))
decoded-codes t c h e = long t c h ∙ ap (by_groups t (groups 518 c)) e

module _ (t m : ℕ) (bs : List ℕ) where
  pub judged-mixed : mixed m ≡ true → judged t m bs ≡ Err Mixed
  judged-mixed a = rw a

  module _ (a : mixed m ≡ false) where
    pub judged_check : (crc (take 516 bs) ≡ word_at bs 516 → ⊥) → judged t m bs ≡ Err Check
    judged_check b = let b' = ne_eqb (crc (take 516 bs)) (word_at bs 516) b in rw (a, b')

    module _ (b : crc (take 516 bs) ≡ word_at bs 516) where
      pub judged_other : (get_or bs 512 0 ≡ t → ⊥) → judged t m bs ≡ Err (OtherTrack (get_or bs 512 0))
      judged_other c = let b' = eq-eqb (crc (take 516 bs)) (word_at bs 516) b in let c' = ne_eqb (get_or bs 512 0) t c in rw (a, b', c')

      module _ (c : get_or bs 512 0 ≡ t) where
        pub judged_control : (get_or bs 513 0 / 16 ≡ 0 → ⊥) → judged t m bs ≡ Err (Control (get_or bs 513 0 / 16))
        judged_control d = let b' = eq-eqb (crc (take 516 bs)) (word_at bs 516) b in let c' = eq-eqb (get_or bs 512 0) t c in let d' = ne_eqb (get_or bs 513 0 / 16) 0 d in rw (a, b', c', d')

        module _ (d : get_or bs 513 0 / 16 ≡ 0) where
          pub judged-zero : number_in bs ≡ 0 → judged t m bs ≡ Err NumberZero
          judged-zero e =
              let b' = eq-eqb (crc (take 516 bs)) (word_at bs 516) b in let c' = eq-eqb (get_or bs 512 0) t c in let d' = eq-eqb (get_or bs 513 0 / 16) 0 d in
              let e' = eq-eqb (number_in bs) 0 e in rw (a, b', c', d', e')

          pub judged-item : (number_in bs ≡ 0 → ⊥) → judged t m bs ≡ Ok (record { number = number_in bs; content = content_in m bs })
          judged-item e =
              let b' = eq-eqb (crc (take 516 bs)) (word_at bs 516) b in let c' = eq-eqb (get_or bs 512 0) t c in let d' = eq-eqb (get_or bs 513 0 / 16) 0 d in
              let e' = ne_eqb (number_in bs) 0 e in rw (a, b', c', d', e')

pub from_some : (i : Numbered) (n : ℕ) (x : Content) → Some i ≡ item_from n x → (i ≡ record { number = n; content = x }) × (1 ≤ n) × (n ≤ 1048575)
from_some i n x e = by (leb 1 n && leb n 1048575) refl e
  where
    by : (b : Bool) → leb 1 n && leb n 1048575 ≡ b → Some i ≡ cond b (Some (record { number = n; content = x })) None → (i ≡ record { number = n; content = x }) × (1 ≤ n) × (n ≤ 1048575)
    by true p q = let h = and_parts (leb 1 n) (leb n 1048575) p in (cc, leb-true 1 n h.0, leb-true n 1048575 h.1)
    by false p q = absurd (let z : ◌≡◌ {A = ℕ} 0 1 = cc in omega arith)

pub from-none : (n : ℕ) (x : Content) → None ≡ item_from n x → n ≤ 1048575 → n ≡ 0
from-none n x e h = by (leb 1 n) refl e
  where
    by : (b : Bool) → leb 1 n ≡ b → ◌≡◌ {A = Option Numbered} None (cond (b && leb n 1048575) (Some (record { number = n; content = x })) None) → n ≡ 0
    by true p q =
        let r : ◌≡◌ {A = Option Numbered} None (Some (record { number = n; content = x })) = q ∙ ap (λ b. cond b (Some (record { number = n; content = x })) None) (le-leb n 1048575 h) in
        absurd (let z : ◌≡◌ {A = ℕ} 0 1 = cc in omega arith)
    by false p q = let k = leb-false 1 n p in omega arith

-- the item under the number and with the content that were read, or that the number is 0
pub made : (t m : ℕ) (bs : List ℕ) → mixed m ≡ false → crc (take 516 bs) ≡ word_at bs 516 → get_or bs 512 0 ≡ t → get_or bs 513 0 / 16 ≡ 0 →
    (o : Option Item) → number_in bs ≤ 1048575 → option_map held o ≡ item_from (number_in bs) (content_in m bs) → mapped_ok held (ok_or o NumberZero) ≡ judged t m bs
made t m bs a b c d None h e = sym (judged-zero t m bs a b c d (from-none (number_in bs) (content_in m bs) e h))
made t m bs a b c d (Some i) h e =
    let f = from_some (held i) (number_in bs) (content_in m bs) e in
    ap Ok f.0 ∙ sym (judged-item t m bs a b c d (λ q. omega (arith, f.1)))

-- what holds where an item is read
pub record JudgedOk (t m : ℕ) (bs : List ℕ) (i : Numbered) : Type 0 where
  pub kind : mixed m ≡ false
  pub check : crc (take 516 bs) ≡ word_at bs 516
  pub on_track : get_or bs 512 0 ≡ t
  pub control : get_or bs 513 0 / 16 ≡ 0
  pub nonzero : number_in bs ≡ 0 → ⊥
  pub item : i ≡ record { number = number_in bs; content = content_in m bs }

err-not-ok : {A : Type 0} (f : CopyFault) (i : Numbered) → ◌≡◌ {A = Result Numbered CopyFault} (Err f) (Ok i) → A
err-not-ok f i e = absurd (let z : ◌≡◌ {A = ℕ} 0 1 = cc in omega arith)

ok_same : (i j : Numbered) → ◌≡◌ {A = Result Numbered CopyFault} (Ok i) (Ok j) → i ≡ j
ok_same i j e = cc

pub judged-ok : (t m : ℕ) (bs : List ℕ) (i : Numbered) → judged t m bs ≡ Ok i → JudgedOk t m bs i
judged-ok t m bs i e =
    ⊎_elim (λ a. err-not-ok Mixed i (sym (judged-mixed t m bs a) ∙ e))
    (λ a. ⊎_elim
    (λ b. ⊎_elim
    (λ c. ⊎_elim
    (λ d. ⊎_elim (λ z. err-not-ok NumberZero i (sym (judged-zero t m bs a b c d z) ∙ e))
    (λ z. record { kind = a; check = b; on_track = c; control = d; nonzero = z; item = ok_same i (record { number = number_in bs; content = content_in m bs }) (sym e ∙ judged-item t m bs a b c d z) })
    (cases_eq (number_in bs) 0))
    (λ d. err-not-ok (Control (get_or bs 513 0 / 16)) i (sym (judged_control t m bs a b c d) ∙ e)) (cases_eq (get_or bs 513 0 / 16) 0))
    (λ c. err-not-ok (OtherTrack (get_or bs 512 0)) i (sym (judged_other t m bs a b c) ∙ e)) (cases_eq (get_or bs 512 0) t))
    (λ b. err-not-ok Check i (sym (judged_check t m bs a b) ∙ e)) (cases_eq (crc (take 516 bs)) (word_at bs 516)))
    (cases_Bool (mixed m))

-- what holds where cells are read as an item
pub record DecodedOk (t : ℕ) (c : List ℕ) (i : Numbered) : Type 0 where
  pub long : 5180 ≤ length c
  pub codes : first_fault 0 (groups 518 c) ≡ None
  pub judging : JudgedOk t (marks_in (groups 518 c)) (map byte_of (groups 518 c)) i

pub decoded-ok : (t : ℕ) (c : List ℕ) (i : Numbered) → decoded t c ≡ Ok i → DecodedOk t c i
decoded-ok t c i e =
    ⊎_elim (λ h. err-not-ok TrackEnds i (sym (decoded-short t c h) ∙ e)) (λ h. by h (first_fault 0 (groups 518 c)) refl) (cases_lt (length c) 5180)
  where
    by : 5180 ≤ length c → (o : Option GroupFault) → first_fault 0 (groups 518 c) ≡ o → DecodedOk t c i
    by h (Some f) q = err-not-ok (Group f) i (sym (decoded_fault t c f h q) ∙ e)
    by h None q = record { long = h; codes = q; judging = judged-ok t (marks_in (groups 518 c)) (map byte_of (groups 518 c)) i (sym (decoded-codes t c h q) ∙ e) }
