-- Two operators that record on one cartridge, and what its replay then hands out.
use Rattle.std.specs.Prelude.{◌≡◌, ℕ, Bool, List, ◌++◌, map, Ok, vec_items}
use Rattle.qic24.specs.Copy.{held}
use Rattle.tape.specs.Tape.{Tape, blank}
use Rattle.replay.specs.Copies.{NoFalseCopy}
use Rattle.deck.specs.Agreement.{kept_by_both}
use Rattle.deposit.specs.OperatorCalls.{calls_by}
use Rattle.deposit.specs.Operating.{Operates}
use Rattle.deposit.specs.declared.call.Call.{Call}
use Rattle.deposit.specs.declared.call.Operated.{Operated}
use Rattle.deposit.specs.declared.replaying.Replayed.{Replayed}

-- the second takes over where the first has stopped
pub record TwoOperators (room : ℕ) (before : Tape) (one : List Call) (a : Operated) (two : List Call) (b : Operated) (after : Tape) : Type 0 where
  pub middle : Tape
  pub by_one : Operates room before one a middle
  pub by_two : Operates room middle two b after

-- on a new cartridge, where no false copy stands, the replay is the first's kept list, then the second's, then end
abbrev pub KeptThenEnd : ℕ → Tape → List Call → Operated → List Call → Operated → Tape → Replayed → Type 0
KeptThenEnd room before one a two b after p =
    (w : TwoOperators room before one a two b after) (tracks : ℕ) → before ≡ blank tracks → NoFalseCopy after (w.by_one.log ++ w.by_two.log) →
    (map held (vec_items p.items) ≡ kept_by_both (calls_by one a) (calls_by two b)) × ((passed : Bool) × (p.ending ≡ Ok (record { passed = passed })))
