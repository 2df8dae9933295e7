-- A deposit: two operators in turn, and what a new cartridge then replays.
use Rattle.std.proofs.Common.{◌≡◌, ℕ, Bool, List, ◌++◌, Ok, Err, Result, ap, ◌∙◌, subst}
use Rattle.tape.specs.Tape.{Tape, blank}
use Rattle.replay.specs.Copies.{OfCartridge, NoFalseCopy}
use Rattle.replay.specs.Replay.{ReplayState, replay_items}
use Rattle.replay.specs.Seeking.{FindResult, found_item, found_end, found_beyond, tape_replay, ending}
use Rattle.deck.specs.CallsMade.{Made}
use Rattle.deck.specs.Deck.{deck_idle}
use Rattle.replay.specs.declared.unlocated.UnlocatedNumber.{UnlocatedNumber}
use Rattle.deck.specs.Agreement.{Deposit}
use Rattle.deposit.specs.Depositing.{TwoOperators, KeptThenEnd}
use Rattle.deposit.specs.OperatorCalls.{calls_by}
use Rattle.deposit.specs.Operating.{Operates}
use Rattle.deposit.specs.WholeReplay.{end_found, Replays}
use Rattle.deposit.specs.declared.call.Call.{Call}
use Rattle.deposit.specs.declared.call.Operated.{Operated}
use Rattle.deposit.specs.declared.replaying.ReplayEnd.{ReplayEnd}
use Rattle.deposit.specs.declared.replaying.Replayed.{Replayed}
use Rattle.deck.proofs.Agreeing.{handed_over}

-- the second takes the cartridge over from the first
pub in_turn : {S : Type 0} (room : S → ℕ) (cells : S → Tape) (start middle end : S) (one : List Call) (a : Operated) (two : List Call) (b : Operated)
    → Operates (room start) (cells start) one a (cells middle) → room middle ≡ room start → Operates (room middle) (cells middle) two b (cells end)
    → TwoOperators (room start) (cells start) one a two b (cells end)
in_turn room cells start middle end one a two b h same k = record {
  middle = cells middle;
  by_one = h;
  by_two = subst (λ (n : ℕ). Operates n (cells middle) two b (cells end)) same k;
}

-- the end that was found
abbrev found_there : Bool → FindResult → Result ReplayEnd UnlocatedNumber
found_there b (found_item f) = Ok (record { passed = b })
found_there b (found_end passed) = Ok (record { passed = passed })
found_there b (found_beyond w) = Err w

same_end : (e : Result ReplayEnd UnlocatedNumber) (passed : Bool) → end_found e ≡ found_end passed → e ≡ Ok (record { passed = passed })
same_end (Ok e) passed h = ap (found_there passed) h
same_end (Err w) passed h = ap (found_there passed) h

-- on a new cartridge, where no false copy stands, the run is a deposit as the agreement speaks of it
pub deposit_made : (room : ℕ) (before : Tape) (one : List Call) (a : Operated) (two : List Call) (b : Operated) (after : Tape) (w : TwoOperators room before one a two b after) (tracks : ℕ)
    → before ≡ blank tracks → OfCartridge after → NoFalseCopy after (w.by_one.log ++ w.by_two.log) → Deposit after (calls_by one a) (calls_by two b)
deposit_made room before one a two b after w tracks e h n = record {
  room = room;
  tracks = tracks;
  middle = w.middle;
  log_one = w.by_one.log;
  log_two = w.by_two.log;
  by_one = subst (λ (c : Tape). Made room c deck_idle (calls_by one a) w.by_one.log w.middle deck_idle) e w.by_one.made;
  by_two = w.by_two.made;
  cells = h;
  no_false = n;
}

pub kept_then_end : (room : ℕ) (before : Tape) (one : List Call) (a : Operated) (two : List Call) (b : Operated) (after : Tape) (p : Replayed) → OfCartridge after → Replays p (tape_replay after) → KeptThenEnd room before one a two b after p
kept_then_end room before one a two b after p h r w tracks e n =
    let (passed, s) = handed_over after (calls_by one a) (calls_by two b) (deposit_made room before one a two b after w tracks e h n) in
    (r.items ∙ ap replay_items s, (passed, same_end p.ending passed (r.ends ∙ ap (λ (z : ReplayState). ending z (tape_replay after).unsound) s)))
