-- What the format promises, in its own words.
use Rattle.std.specs.Prelude.{◌≡◌, ℕ, ◌+◌, ◌<◌, ◌≤◌, ◌↔◌, List, ◌∷◌, ◌++◌, take, drop, replicate, Ok, ◌≢◌}
use Rattle.std.specs.List.{AllByRecursion}
use Rattle.qic24.specs.Cells.{Cell}
use Rattle.qic24.specs.Copy.{Numbered, Proper, body, item_crc, mark_counts}
use Rattle.qic24.specs.Decode.{decoded}
use Rattle.qic24.specs.Opening.{Opens, SoundAt}
use Rattle.qic24.specs.declared.item.Content.TheVariants.{Block, Mark}

-- cells are read as an item exactly when the item is a proper one and they begin with its cells
abbrev pub ReadsExactly : Type 0
ReadsExactly = (t : ℕ) (c : List ℕ) (i : Numbered) → t < 256 → AllByRecursion Cell c → (decoded t c ≡ Ok i) ↔ (Proper i × (take 5180 c ≡ body t i))

-- cells decode to what was encoded, whatever follows them
abbrev pub ReadsBack : Type 0
ReadsBack = (t : ℕ) (i : Numbered) (rest : List ℕ) → t < 256 → Proper i → decoded t (body t i ++ rest) ≡ Ok i

-- two items with equal cells on one track are equal
abbrev pub SameCellsSameItem : Type 0
SameCellsSameItem = (t : ℕ) (i j : Numbered) → t < 256 → Proper i → Proper j → body t i ≡ body t j → i ≡ j

-- the cells of an item hold no nine ones in a row, also not together with the three ones that end the marker
abbrev pub NoNineOnes : Type 0
NoNineOnes = (t : ℕ) (i : Numbered) → t < 256 → Proper i → (k : ℕ) → take 9 (drop k (1 ∷ 1 ∷ 1 ∷ body t i)) ≢ replicate 9 1

-- no opening has its place inside a sound copy, or right at its end
abbrev pub NoOpeningInside : Type 0
NoOpeningInside = (t : ℕ) (c : List ℕ) (p : ℕ) (i : Numbered) → t < 256 → SoundAt t c p i → (q : ℕ) → p < q → q ≤ p + 5180 → Opens c q → ⊥

-- a mark and a block of 512 bytes FF under one number have the same CRC and different cells
abbrev pub MarkIsNoBlock : Type 0
MarkIsNoBlock =
    (t n : ℕ) → t < 256 → 1 ≤ n → n ≤ 1048575 →
    (item_crc t (record { number = n; content = Mark }) ≡ item_crc t (record { number = n; content = Block mark_counts })) ×
    (body t (record { number = n; content = Mark }) ≢ body t (record { number = n; content = Block mark_counts }))
