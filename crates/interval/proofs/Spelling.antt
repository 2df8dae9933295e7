-- Cells spelled out in the bytes of an interval store, one after the other.
use Rattle.std.specs.Prelude.{◌≡◌, ℕ, ◌+◌, ◌-◌, ◌*◌, ◌<◌, ◌≤◌, Bool, true, false, cond, not, List, [], ◌∷◌, ◌++◌, length, take, replicate, slice_set, refl}
use Rattle.std.proofs.Common.{sym, ap, ◌∙◌, add-zero, mul-zero, mul-one, arith}
use mir.Val.{bool_byte}
use Rattle.std.specs.List.{flat_map}
use Rattle.std.proofs.lemmas.List.{append-nil, append_assoc, length-append, take-take, take_more_set, take-set, set-set, replicate_more, flat_map_more}
use Rattle.std.proofs.lemmas.Bool.{eq-eqb, ne_eqb}
use Rattle.interval.specs.declared.interval.track.Fill.{Fill}
use Rattle.interval.specs.Intervals.{gap, cells_by, interval_cells}
use Rattle.interval.specs.Gaps.{Spelled}

pub gap_one : (z : ℕ) → z < 255 → gap z ≡ replicate z 0 ++ 1 ∷ []
unfolding gap
gap_one z h = ap (λ t. replicate z 0 ++ cond t [] (1 ∷ [])) (ne_eqb z 255 (omega arith))

pub gap_full : (z : ℕ) → z ≡ 255 → gap z ≡ replicate z 0
unfolding gap
gap_full z h = ap (λ t. replicate z 0 ++ cond t [] (1 ∷ [])) (eq-eqb z 255 h) ∙ append-nil (replicate z 0)

-- one byte more
byte_more : (b : List ℕ) (n v : ℕ) → n < length b → flat_map gap (take (n + 1) (slice_set b n v)) ≡ flat_map gap (take n b) ++ gap v
byte_more b n v h = ap (flat_map gap) (take_more_set b n v h) ∙ sym (flat_map_more gap [] (take n b) v)

pub spelled_none : (f : Fill) (b : List ℕ) → Spelled f b [] b f
spelled_none f b = record { are = sym (append-nil (interval_cells b f)); kept = refl; more = omega arith; few = omega arith }

-- one cell more, by how far the track is filled then
module _ (f g : Fill) (b : List ℕ) where
  pub spelled_one : f.used < length b → g.used ≡ f.used + 1 → g.zeros ≡ 0 → Spelled f b (1 ∷ []) (slice_set b f.used f.zeros) g
  unfolding cells_by
  spelled_one h u z = record {
    are = rw (u, z) (append-nil (flat_map gap (take (f.used + 1) (slice_set b f.used f.zeros))) ∙ byte_more b f.used f.zeros h ∙ ap (λ (g : List ℕ). flat_map gap (take f.used b) ++ g) (gap_one f.zeros f.short)
        ∙ sym (append_assoc (flat_map gap (take f.used b)) (replicate f.zeros 0) (1 ∷ [])));
    kept = take-set b f.used f.zeros;
    more = omega arith;
    few = omega arith;
  }

  -- what stands after the bytes in use does not matter
  pub spelled_zero : (e : List ℕ) → take f.used e ≡ take f.used b → g.used ≡ f.used → g.zeros ≡ f.zeros + 1 → Spelled f b (0 ∷ []) e g
  unfolding cells_by
  spelled_zero e same u z = record {
    are = rw (u, z) (ap (λ (x : List ℕ). flat_map gap x ++ replicate (f.zeros + 1) 0) same
        ∙ ap (λ (g : List ℕ). flat_map gap (take f.used b) ++ g) (sym (replicate_more f.zeros 0)) ∙ sym (append_assoc (flat_map gap (take f.used b)) (replicate f.zeros 0) (0 ∷ [])));
    kept = same;
    more = omega arith;
    few = omega arith;
  }

  pub spelled_full : f.used < length b → f.zeros + 1 ≡ 255 → g.used ≡ f.used + 1 → g.zeros ≡ 0 → Spelled f b (0 ∷ []) (slice_set b f.used 255) g
  unfolding cells_by
  spelled_full h s u z = record {
    are = rw (u, z) (append-nil (flat_map gap (take (f.used + 1) (slice_set b f.used 255))) ∙ ap (λ v. flat_map gap (take (f.used + 1) (slice_set b f.used v))) (sym s)
        ∙ byte_more b f.used (f.zeros + 1) h ∙ ap (λ (g : List ℕ). flat_map gap (take f.used b) ++ g) (gap_full (f.zeros + 1) s ∙ sym (replicate_more f.zeros 0))
        ∙ sym (append_assoc (flat_map gap (take f.used b)) (replicate f.zeros 0) (0 ∷ [])));
    kept = take-set b f.used 255;
    more = omega arith;
    few = omega arith;
  }

-- the zeros so far are written in either way, and t tells whether the cell is another; o is 1 for a one
pub spelled_short : (t : Bool) (o : ℕ) (f g : Fill) (b : List ℕ) → f.used < length b → o ≡ bool_byte (not t) → g.used ≡ f.used + o → g.zeros ≡ (f.zeros + 1) * (1 - o)
    → Spelled f b (cond t 0 1 ∷ []) (slice_set b f.used f.zeros) g
spelled_short true o f g b h e u z = spelled_zero f g b (slice_set b f.used f.zeros) (take-set b f.used f.zeros) (omega arith) (z ∙ rw (e, mul-one))
spelled_short false o f g b h e u z = spelled_one f g b h (omega arith) (z ∙ rw (e, mul-zero))

pub spelled_long : (t : Bool) (o : ℕ) (f g : Fill) (b : List ℕ) → f.used < length b → o ≡ bool_byte (not t) → 255 ≤ (f.zeros + 1) * (1 - o) → g.used ≡ f.used + o + 1 → g.zeros ≡ 0
    → Spelled f b (cond t 0 1 ∷ []) (slice_set (slice_set b f.used f.zeros) (f.used + o) 255) g
spelled_long true o f g b h e l u z = rw (e, add-zero, set-set) (spelled_full f g b h (let l' = rw (e, mul-one) at l in let s = f.short in omega arith) (omega arith) z)
spelled_long false o f g b h e l u z = absurd (let l' = rw (e, mul-zero) at l in omega arith)

-- more cells after them
pub spelled_then : (f g h : Fill) (a b c xs ys : List ℕ) → Spelled f a xs b g → Spelled g b ys c h → Spelled f a (xs ++ ys) c h
spelled_then f g h a b c xs ys p q = record {
  are = q.are ∙ ap (λ (w : List ℕ). w ++ ys) p.are ∙ append_assoc (interval_cells a f) xs ys;
  kept = sym (take-take f.used g.used c p.more) ∙ ap (take f.used) q.kept ∙ take-take f.used g.used b p.more ∙ p.kept;
  more = let m = p.more in let n = q.more in omega arith;
  few = let m = p.few in let n = q.few in omega (arith, length-append xs ys);
}
