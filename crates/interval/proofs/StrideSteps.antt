-- The places of the marks on a track.
use Rattle.std.proofs.Common.{◌≡◌, ℕ, ◌+◌, ◌*◌, ◌/◌, ◌<◌, ◌≤◌, inl, inr, add-mul, one-mul, arith}
use Rattle.std.specs.Int.{div_ceil}
use Rattle.std.proofs.lemmas.Nat.{mul-le, div-add-mod', mod_below}
use Rattle.std.proofs.lemmas.Bool.{cases_lt}
use Rattle.std.proofs.lemmas.Grind.{div_ceil_times}
use Rattle.interval.specs.Marks.{mark_stride}

-- a row of s places stands before those of a later one
pub row_before : (s v t : ℕ) → v < t → v * s + s ≤ t * s
row_before s v t h = omega (arith, mul-le (v + 1) s t s (omega arith) (omega arith), add-mul v 1 s, one-mul s)

pub stride_some : (c : ℕ) → 0 < mark_stride c
unfolding mark_stride
stride_some c = omega arith

pub stride_covers : (c : ℕ) → c < 511 * mark_stride c
unfolding mark_stride
stride_covers c = omega arith

-- a mark that a track can come to is one of its own
pub mark-inside : (c k : ℕ) → k * mark_stride c ≤ c → k < 511
mark-inside c k h = elim (cases_lt k 511) [
  | inl l ↦ l
  | inr l ↦ absurd (omega (arith, mul-le 511 (mark_stride c) k (mark_stride c) l (omega arith), stride_covers c))
]

module _ (s : ℕ) (some : 0 < s) where
  -- the last mark at or before a place
  pub behind_at : (l : ℕ) → l / s * s ≤ l
  behind_at l = omega (arith, div-add-mod' l s)

  pub behind_near : (l : ℕ) → l < l / s * s + s
  behind_near l = omega (arith, div-add-mod' l s, mod_below l s some)

  -- a track that grew from l to m cells, no further than to its next mark, came to no mark but the one ahead of m
  pub come_to : (l m k : ℕ) → m ≤ l / s * s + s → k * s ≤ m → (k ≡ div_ceil m s → ⊥) → k * s ≤ l
  come_to l m k h come ne =
      let ahead = div_ceil_times m s some in
      elim (cases_lt k (div_ceil m s)) [
        | inl low ↦ elim (cases_lt (l / s) k) [
          | inl high ↦ absurd (omega (arith, row_before s (l / s) k high, row_before s k (div_ceil m s) low, ahead.1))
          | inr same ↦ omega (arith, mul-le k s (l / s) s same (omega arith), behind_at l)
        ]
        | inr high ↦ absurd (omega (arith, row_before s (div_ceil m s) k (omega arith), ahead.0))
      ]

-- the mark ahead of a place within the capacity is one of the track's
pub ahead_inside : (c l : ℕ) → l ≤ c → div_ceil l (mark_stride c) < 512
ahead_inside c l h = elim (cases_lt (div_ceil l (mark_stride c)) 512) [
  | inl low ↦ low
  | inr high ↦ absurd (omega (arith, mul-le 512 (mark_stride c) (div_ceil l (mark_stride c)) (mark_stride c) high (omega arith), (div_ceil_times l (mark_stride c) (stride_some c)).1, stride_covers c))
]
