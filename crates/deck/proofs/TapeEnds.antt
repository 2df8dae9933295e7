-- The track where a recording goes on, found track by track.
use Rattle.std.proofs.Common.{◌≡◌, ℕ, suc, ◌<◌, ◌≤◌, cond, ltb, List, [], ◌∷◌, length, refl, ap, ◌∙◌, inl, inr, arith}
use Rattle.std.proofs.lemmas.Bool.{cases_lt, cond_both}
use Rattle.tape.specs.Tape.{Tape, track}
use Rattle.deck.specs.Deck.{tracks_used, end_track}
use Rattle.deck.proofs.CallRuns.{EmptyPast, end_track-is}

unused : (c : Tape) → ((u : ℕ) → length (track c u) ≡ 0) → tracks_used c ≡ 0
unused [] e = refl
unused (x ∷ xs) e =
    ap (λ (k : ℕ). cond (ltb 0 k) (suc k) (cond (ltb 0 (length x)) 1 0)) (unused xs (λ u. e (suc u))) ∙
    ap (λ (n : ℕ). cond (ltb 0 n) 1 0) (e 0)

-- the first track, or one that has cells, with none past it
pub end_track_from : (c : Tape) (t : ℕ) → (0 < t → 0 < length (track c t)) → EmptyPast c t → end_track c ≡ t
unfolding end_track
end_track_from c t h p = elim (cases_lt 0 (length (track c t))) [
  | inl k ↦ end_track-is c t k p
  | inr k ↦
      let first : t ≡ 0 = elim (cases_lt 0 t) [ inl l ↦ absurd (omega (arith, h l)) | inr l ↦ omega arith ] in
      let none : (u : ℕ) → length (track c u) ≡ 0 = λ u. elim (cases_lt t u) [ inl l ↦ ap length (p u l) | inr l ↦ let e : u ≡ t = omega arith in ap (λ (v : ℕ). length (track c v)) e ∙ omega arith ] in
      omega (arith, unused c none)
]

used_most : (c : Tape) → tracks_used c ≤ length c
used_most [] = omega arith
used_most (x ∷ xs) =
    let h = used_most xs in
    cond_both (ltb 0 (tracks_used xs)) (suc (tracks_used xs)) (cond (ltb 0 (length x)) 1 0) (λ n. n ≤ suc (length xs)) (λ _. omega arith)
    (λ _. cond_both (ltb 0 (length x)) 1 0 (λ n. n ≤ suc (length xs)) (λ _. omega arith) (λ _. omega arith))

pub end_track-most : (c : Tape) → end_track c ≤ length c
unfolding end_track
end_track-most c = omega (arith, used_most c)

pub end_track-there : (c : Tape) → 0 < length c → end_track c < length c
unfolding end_track
end_track-there c h = omega (arith, used_most c)

pub no_cells : (xs : List ℕ) → length xs ≡ 0 → xs ≡ []
no_cells [] e = refl
no_cells (x ∷ xs) e = absurd (omega arith)
