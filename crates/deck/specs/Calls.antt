-- The calls that record, their answers, and the list of what they kept.
use Rattle.std.specs.Prelude.{ℕ, cond, List, [], ◌∷◌, ◌++◌, ◌==◌}
use Rattle.qic24.specs.Cells.{fold}
use Rattle.qic24.specs.Copy.{Numbered}
use Rattle.qic24.specs.declared.item.Content.{Content}
use Rattle.qic24.specs.declared.item.Content.TheVariants.{Block, Mark}
use Rattle.replay.specs.declared.unlocated.UnlocatedNumber.{UnlocatedNumber}

-- one call that an operator makes of a deck
pub data DeckCall : Type 0 where
  begin_call : DeckCall
  write_call : List ℕ → DeckCall
  mark_call : DeckCall
  stop_call : DeckCall

-- what it is answered
pub data DeckAnswer : Type 0 where
  next_number : ℕ → DeckAnswer  -- of begin, write and mark
  kept_total : ℕ → DeckAnswer  -- of stop
  refused_with : ℕ → DeckAnswer  -- every refusal but the two that carry more
  unwritable : ℕ → DeckAnswer  -- refusal 14, and the number that it names
  unlocated : UnlocatedNumber → DeckAnswer  -- refusal 17, and what it carries

-- a call that was made
pub record AnsweredCall : Type 0 where
  pub call : DeckCall
  pub answer : DeckAnswer

abbrev pub item_of : ℕ → Content → Numbered
item_of n x = record { number = n; content = x }

-- the item that a call hands in, under a number
abbrev pub handed_in : DeckCall → ℕ → List Numbered
handed_in begin_call n = []
handed_in (write_call bs) n = item_of n (Block bs) ∷ []
handed_in mark_call n = item_of n Mark ∷ []
handed_in stop_call n = []

-- the list with no item of this number
abbrev pub without : ℕ → List Numbered → List Numbered
without n [] = []
without n (i ∷ is) = cond (i.number == n) (without n is) (i ∷ without n is)

-- an accepted item is added under the number answered, one that can't be written is taken out, and any other answer leaves the list
abbrev pub kept_after : List Numbered → AnsweredCall → List Numbered
kept_after list d = elim d.answer [
  | next_number n ↦ list ++ handed_in d.call n
  | kept_total n ↦ list
  | refused_with k ↦ list
  | unwritable n ↦ without n list
  | unlocated w ↦ list
]

-- the kept list comes from the calls and their answers alone
abbrev pub kept_list : List AnsweredCall → List Numbered
kept_list ds = fold kept_after [] ds
