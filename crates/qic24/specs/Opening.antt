-- Where copies begin: the opening of a copy, and a sound copy on a track.
use Rattle.std.specs.Prelude.{◌≡◌, ℕ, ◌-◌, ◌<◌, ◌≤◌, List, [], ◌∷◌, take, drop, Option, MatchOption}
use Rattle.qic24.specs.Copy.{Numbered, Proper, body}

-- nine ones, then 00111
abbrev pub opening : List ℕ
opening = 1 ∷ 1 ∷ 1 ∷ 1 ∷ 1 ∷ 1 ∷ 1 ∷ 1 ∷ 1 ∷ 0 ∷ 0 ∷ 1 ∷ 1 ∷ 1 ∷ []

-- an opening ends right before the place p of a track's cells
abbrev pub Opens : List ℕ → ℕ → Type 0
Opens c p = (14 ≤ p) × (take 14 (drop (p - 14) c) ≡ opening)

-- no opening has its place from `from` up to, and without, `to`
abbrev pub NoneBetween : List ℕ → ℕ → ℕ → Type 0
NoneBetween c from to = (q : ℕ) → from ≤ q → q < to → Opens c q → ⊥

-- an answer to the search for the first opening whose place is `from` or later
abbrev pub FirstOpening : List ℕ → ℕ → Option ℕ → Type 0
FirstOpening c from r = MatchOption r ((q : ℕ) → from ≤ q → Opens c q → ⊥) (λ p. (from ≤ p) × Opens c p × NoneBetween c from p)

-- a sound copy of the item i at the place p of the track t, whose cells are c
pub record SoundAt (t : ℕ) (c : List ℕ) (p : ℕ) (i : Numbered) : Type 0 where
  pub opens : Opens c p
  pub proper : Proper i
  pub reads : take 5180 (drop p c) ≡ body t i
