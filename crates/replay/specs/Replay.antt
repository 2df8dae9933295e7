-- What a replay hands out, and how it ends.
use Rattle.std.specs.Prelude.{◌≡◌, ℕ, suc, Bool, true, false, cond, List, [], ◌∷◌, ◌++◌, Option, ◌==◌, nat_lt}
use Rattle.qic24.specs.Copy.{Numbered}
use Rattle.replay.specs.Copies.{TapePlace, CopyAt}
-- an opening whose copy is not sound, and the first cause why
pub use Rattle.replay.specs.declared.unlocated.UnsoundOpening.{UnsoundOpening}
-- all that the refusal of a replay carries: the number that is not located, where the later copy stands, and the last unsound opening since the item before, if there is one
pub use Rattle.replay.specs.declared.unlocated.UnlocatedNumber.{UnlocatedNumber}

-- a replay under way: the items handed out, the number expected, and whether the one after it was passed over; or the number that is not located, and where a later one stands
pub data ReplayState : Type 0 where
  expecting : List Numbered → ℕ → Bool → ReplayState
  not_located : List Numbered → ℕ → TapePlace → ReplayState

-- the next sound copy in tape order. The expected number is handed out, a smaller one or the one after it is passed over, and a number beyond ends the replay
abbrev pub advance : ReplayState → CopyAt → ReplayState
advance (expecting out n passed) f =
    cond (nat_lt f.item.number n) (expecting out n passed)
    (cond (f.item.number == n) (expecting (out ++ (f.item ∷ [])) (suc n) false)
    (cond (f.item.number == suc n) (expecting out n true) (not_located out n f.place)))
advance (not_located out n p) f = not_located out n p

-- from a rewind on
abbrev pub rewound : ReplayState
rewound = expecting [] 1 false

-- what was handed out
abbrev pub replay_items : ReplayState → List Numbered
replay_items (expecting out n passed) = out
replay_items (not_located out n p) = out

-- the items are numbered one after the other, from n on
abbrev pub NumberedFrom : ℕ → List Numbered → Type 0
NumberedFrom n [] = Unit {0}
NumberedFrom n (i ∷ is) = (i.number ≡ n) × NumberedFrom (suc n) is

-- a replay, with the last unsound opening since the last item that was handed out
pub record ReplayProgress : Type 0 where
  pub state : ReplayState
  pub unsound : Option UnsoundOpening
