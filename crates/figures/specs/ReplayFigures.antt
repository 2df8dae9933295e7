-- The bench figures of the replay, and that its definitions give them.
use Rattle.std.specs.Prelude.{◌≡◌, ℕ, true, false, List, [], ◌∷◌}
use Rattle.qic24.specs.Cells.{fold}
use Rattle.qic24.specs.Copy.{Numbered}
use Rattle.qic24.specs.declared.item.Content.TheVariants.{Mark}
use Rattle.replay.specs.Copies.{CopyAt, placed}
use Rattle.replay.specs.declared.place.TapePlace.{TapePlace}
use Rattle.replay.specs.Replay.{ReplayState, expecting, not_located, advance, rewound}

-- a file mark under a number
abbrev pub mark_of : ℕ → Numbered
mark_of n = record { number = n; content = Mark }

-- the replay of marks under these numbers, each at its place
abbrev pub replayed : List CopyAt → ReplayState
replayed fs = fold advance rewound fs

-- copies 2, 1, 2 replay 1, 2; of copies 2, 3 the number 1 is not located, and the 3 is where it is refused; copies 1, 3 replay 1, and 3 is passed over
abbrev pub FiguresOfTheReplay : Type 0
FiguresOfTheReplay =
    (p q r : TapePlace) →
    (replayed (placed p (mark_of 2) ∷ placed q (mark_of 1) ∷ placed r (mark_of 2) ∷ []) ≡ expecting (mark_of 1 ∷ mark_of 2 ∷ []) 3 false) ×
    (replayed (placed p (mark_of 2) ∷ placed q (mark_of 3) ∷ []) ≡ not_located [] 1 q) ×
    (replayed (placed p (mark_of 1) ∷ placed q (mark_of 3) ∷ []) ≡ expecting (mark_of 1 ∷ []) 2 true)
