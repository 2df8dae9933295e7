-- The promises on stores and sheets.
use Rattle.std.proofs.Common.{◌≡◌, ℕ, ◌+◌, ◌-◌, ◌<◌, false, cond, eqb, List, [], ◌∷◌, ◌++◌, length, get_or, take, drop, sym, refl, ap, ◌∙◌, subst, inl, inr, append_assoc, append-nil, arith, drop-drop, take-add, drop_at}
use Rattle.std.specs.List.{flat_map, AllByRecursion}
use Rattle.std.proofs.lemmas.List.{get_or-append_right}
use Rattle.std.proofs.lemmas.Bool.{cases_eq, eq-eqb, ne_eqb, cond-true, cond-false}
use Rattle.tape.specs.Tape.{Tape, track, Run, Longer, Sends}
use Rattle.tape.specs.Stores.{Unspoiled}
use Rattle.tape.specs.Flaws.{under, masked}
use Rattle.tape.specs.Sheets.{sheet_flaws, sheet_takes, Passes}
use Rattle.tape.specs.Promises.{sent_to, reads, total, ReadsBack, ClearSheet, ZerosUnderFlaws}
use Rattle.tape.specs.declared.flaw.Flaw.{Flaw}
use Rattle.tape.specs.declared.sheet.FlawSheet.{FlawSheet}
use Rattle.tape.proofs.Tapes.{unspoiled_longer, unspoiled_track}
use Rattle.tape.specs.Covering.{getD_masked, masked_clean}

module _ {S : Type 0} (tape : S → Tape) (takes : S → Run → S → Type 0) (unspoiled : (s : S) (r : Run) (e : S) → takes s r e → Unspoiled r (tape s) (tape e)) where
  -- a track after one run, and after several
  one_more : (s : S) (r : Run) (e : S) (t : ℕ) → takes s r e → track (tape e) t ≡ track (tape s) t ++ cond (eqb r.on t) r.sent []
  one_more s r e t k =
      let u = unspoiled_longer r (tape s) (tape e) (unspoiled s r e k) in
      elim (cases_eq r.on t) [
        | inl q ↦ subst (λ (n : ℕ). track (tape e) n ≡ track (tape s) n ++ r.sent) q (unspoiled_track r (tape s) (tape e) (unspoiled s r e k)) ∙ ap (λ (x : List ℕ). track (tape s) t ++ x) (sym (cond-true (eqb r.on t) r.sent [] (eq-eqb r.on t q)))
        | inr q ↦ u.others t (λ h. q (sym h)) ∙ (sym (append-nil (track (tape s) t)) ∙ ap (λ (x : List ℕ). track (tape s) t ++ x) (sym (cond-false (eqb r.on t) r.sent [] (ne_eqb r.on t q))))
      ]

  pub track-after : (rs : List Run) (s e : S) (t : ℕ) → Sends takes s rs e → track (tape e) t ≡ track (tape s) t ++ sent_to t rs
  track-after [] s e t h = ap (λ (z : S). track (tape z) t) h ∙ sym (append-nil (track (tape s) t))
  track-after (r ∷ rs) s e t (m, a, b) =
      track-after rs m e t b ∙ (ap (λ (x : List ℕ). x ++ sent_to t rs) (one_more s r m t a) ∙ append_assoc (track (tape s) t) (cond (eqb r.on t) r.sent []) (sent_to t rs))

  reads-are : (x : List ℕ) (p : ℕ) (ns : List ℕ) → reads x p ns ≡ take (total ns) (drop p x)
  reads-are x p [] = refl
  reads-are x p (n ∷ ns) =
      ap (λ (y : List ℕ). take n (drop p x) ++ y) (reads-are x (p + n) ns ∙ ap (take (total ns)) (sym (drop-drop n p x)))
      ∙ sym (take-add n (total ns) (drop p x))

  pub reads_back : ReadsBack tape takes
  reads_back s e rs t ns h =
      reads-are (track (tape e) t) (length (track (tape s) t)) ns
      ∙ ap (take (total ns)) (ap (drop (length (track (tape s) t))) (track-after rs s e t h) ∙ drop_at (track (tape s) t) (sent_to t rs) (length (track (tape s) t)) refl)

  sent-there : (t : ℕ) (rs : List Run) → AllByRecursion (λ q. q.on ≡ t) rs → sent_to t rs ≡ flat_map (λ q. q.sent) rs
  sent-there t [] h = refl
  sent-there t (r ∷ rs) (h, hs) =
      ap (λ (x : List ℕ). x ++ sent_to t rs) (cond-true (eqb r.on t) r.sent [] (eq-eqb r.on t h)) ∙ ap (λ (x : List ℕ). r.sent ++ x) (sent-there t rs hs)

  pub zeros_under : (s : FlawSheet S) (r : Run) (e : FlawSheet S) → sheet_takes tape takes s r e → (i : ℕ) → i < length r.sent
      → get_or (track (tape e.inner) r.on) (length (track (tape s.inner) r.on) + i) 0 ≡ cond (under (sheet_flaws s) r.on (length (track (tape s.inner) r.on) + i)) 0 (get_or r.sent i 0)
  zeros_under s r e (p, _) i h =
      let old = track (tape s.inner) r.on in
      let n = length old in
      let is : track (tape e.inner) r.on ≡ old ++ masked (sheet_flaws s) r.on n r.sent =
      track-after p.runs s.inner e.inner r.on p.sends ∙ ap (λ (x : List ℕ). old ++ x) (sent-there r.on p.runs p.divided.on_track ∙ p.divided.together) in
      let k : n + i - n ≡ i = omega arith in
      ap (λ (x : List ℕ). get_or x (n + i) 0) is
      ∙ (get_or-append_right old (masked (sheet_flaws s) r.on n r.sent) n (n + i) 0 refl (omega arith)
      ∙ (ap (λ (m : ℕ). get_or (masked (sheet_flaws s) r.on n r.sent) m 0) k ∙ getD_masked (sheet_flaws s) r.on n r.sent i 0 h))

pub zeros_under_flaws : {S : Type 0} (tape : S → Tape) (takes : S → Run → S → Type 0) → ZerosUnderFlaws tape takes
zeros_under_flaws tape takes unspoiled = zeros_under tape takes unspoiled

-- with no flaws the one run goes on as it is
pub clear_sheet : {S : Type 0} (tape : S → Tape) (takes : S → Run → S → Type 0) → ((s : S) (r : Run) (e : S) → takes s r e → Longer r (tape s) (tape e)) → ClearSheet tape takes
clear_sheet {S} tape takes grows s r e none = (
  λ t. (alone t.0, t.1),
  λ t. (
    record {
      there = (grows s.inner r e.inner t.0).there;
      runs = r ∷ [];
      divided = record {
        on_track = (refl, tt);
        together = append-nil r.sent ∙ sym (masked_clean (sheet_flaws s) r.on (length (track (tape s.inner) r.on)) r.sent (λ i h. clean i));
        whole = λ _. refl;
      };
      sends = (e.inner, t.0, refl);
    },
    t.1,
  ),
)
  where
    clean : (i : ℕ) → under (sheet_flaws s) r.on (length (track (tape s.inner) r.on) + i) ≡ false
    clean i = ap (λ (fs : List Flaw). under fs r.on (length (track (tape s.inner) r.on) + i)) none

    alone : Passes tape takes (sheet_flaws s) s.inner r e.inner → takes s.inner r e.inner
    alone p =
        let k : Sends takes s.inner (r ∷ []) e.inner = subst (λ (rs : List Run). Sends takes s.inner rs e.inner) (p.divided.whole (λ i h. clean i)) p.sends in
        subst (λ (z : S). takes s.inner r z) (sym k.2) k.1
