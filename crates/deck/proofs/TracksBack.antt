-- The track where a recording goes on, found from the last track back.
use Rattle.std.proofs.Common.{◌≡◌, ℕ, ◌+◌, ◌<◌, ◌≤◌, Bool, true, false, ltb, List, [], ◌∷◌, length, Some, None, Option, sym, ap, ◌∙◌, subst, inl, inr, arith}
use Rattle.std.proofs.iter.runs.Sources.{nat_range_steps_back}
use Rattle.std.proofs.lemmas.Bool.{cases_lt, ltb-true, ltb-false}
use Rattle.std.specs.Bool.{⊤}
use Rattle.std.specs.Fn.{CalledAt}
use Rattle.std.specs.Iterator.{Yields}
use Rattle.std.specs.List.{FoldsTo}
use Rattle.std.specs.Option.{unwrap_or, MatchOption}
use Rattle.std.specs.declared.iter.Rev.{Rev}
use Rattle.std.specs.declared.ops.Range.{Range}
use Rattle.tape.specs.Tape.{Tape, track}
use Rattle.deck.specs.Deck.{end_track}
use Rattle.deck.proofs.TapeEnds.{end_track_from, no_cells}
use denote.Param.Members.{Mut}
use denote.Ref.{Bor}

-- one track back
abbrev pub back : Rev (Range ℕ) → Option ℕ → Rev (Range ℕ) → Type 0
back s r t = nat_range_steps_back s.iter r t.iter

-- no cells from this track on
abbrev pub NoneFrom : Tape → ℕ → Type 0
NoneFrom c n = (u : ℕ) → n ≤ u → length (track c u) ≡ 0

module _ {F : Type 0} (c : Tape) (g : Mut F (Bor ℕ × Unit {0}) Bool) (f : F) (tells : (x : ℕ) (b : Bool) (q : F) → CalledAt g f x b q → (q ≡ f) × (b ≡ ltb 0 (length (track c x)))) where
  ends_at : (t : ℕ) → (0 < t → 0 < length (track c t)) → NoneFrom c (t + 1) → t ≡ end_track c
  ends_at t h p = sym (end_track_from c t h (λ u l. no_cells (track c u) (p u (omega arith))))

  one_less : (n x : ℕ) → n ≡ x + 1 → NoneFrom c n → length (track c x) ≡ 0 → NoneFrom c x
  one_less n x e p z u l = elim (cases_lt x u) [
    | inl k ↦ p u (omega arith)
    | inr k ↦ let q : u ≡ x = omega arith in ap (λ (v : ℕ). length (track c v)) q ∙ z
  ]

  none_left : (n : ℕ) → n ≤ 1 → NoneFrom c n → NoneFrom c 1
  none_left n l p u k = p u (omega arith)

  pub found_back : (xs : List ℕ) (s t u : Rev (Range ℕ)) (r : Option ℕ) (j : F) → s.iter.start ≡ 1 → NoneFrom c s.iter.end →
      Yields back s xs t → back t r u → FoldsTo (λ p x q. CalledAt g p x false q) f xs j → MatchOption r ⊤ (λ x. (h : F) × CalledAt g j x true h) → unwrap_or r 0 ≡ end_track c
  found_back [] s t u None j one p y k o m =
      let k' : back s None u = subst (λ z. back z None u) (sym y) k in
      ends_at 0 (λ l. absurd (omega arith)) (none_left s.iter.end (omega (arith, k'.1.0)) p)
  found_back [] s t u (Some x) j one p y k o (h, called) =
      let k' : back s (Some x) u = subst (λ z. back z (Some x) u) (sym y) k in
      let e : s.iter.end ≡ x + 1 = omega (arith, k'.1.1, k'.1.2) in
      let told = tells x true h (subst (λ q. CalledAt g q x true h) (sym o) called) in
      ends_at x (λ _. ltb-true 0 (length (track c x)) (sym told.1)) (subst (NoneFrom c) e p)
  found_back (x ∷ xs) s t u r j one p (s', k', y) k (f', called, o) m =
      let told = tells x false f' called in
      let none : length (track c x) ≡ 0 = omega (arith, ltb-false 0 (length (track c x)) (sym told.1)) in
      let less = one_less s.iter.end s'.iter.end k'.1.2 p (subst (λ v. length (track c v) ≡ 0) k'.1.1 none) in
      found_back xs s' t u r j (k'.0 ∙ one) less y k (subst (λ q. FoldsTo (λ p x q. CalledAt g p x false q) q xs j) told.0 o) m
