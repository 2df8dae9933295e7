-- Calls made on a tape only make it grow, past what stands there, with room to finish what is pending.
use Rattle.std.proofs.Common.{ℕ, ◌≤◌, List, length, arith}
use Rattle.tape.specs.Tape.{Tape, track, Grown, blank}
use Rattle.replay.specs.Copies.{CopyAt, In}
use Rattle.replay.specs.Scan.{stands}
use Rattle.replay.specs.Seeking.{tape_replay}
use Rattle.deck.specs.Calls.{DeckCall, AnsweredCall}
use Rattle.deck.specs.Deck.{item_pending, DeckState, deck_idle, deck_recording}
use Rattle.deck.specs.CallsMade.{outcome, Made, no_call, call_more, RoomToFinish}
use Rattle.replay.proofs.Orders.{in_append}
use Rattle.replay.proofs.Growing.{Extends, extends_refl, extends_trans, grown_extends, extends_length}
use Rattle.deck.proofs.CallRuns.{Fine, Valid, fine}

-- copies past the end of their tracks
abbrev pub Past : Tape → List CopyAt → Type 0
Past c log = (f : CopyAt) → In f log → length (track c f.place.on) ≤ f.place.at

module _ (limit : ℕ) where
  pub made_extends : (c : Tape) (s : DeckState) (ds : List AnsweredCall) (log : List CopyAt) (e : Tape) (t : DeckState) → Made limit c s ds log e t → Extends c e
  made_extends c s ds log e t no_call = extends_refl c
  made_extends c s ds log e t (call_more {ds = rest} {log = later} call m g then) = extends_trans c m e (grown_extends (outcome limit c m s call).runs c m g) (made_extends m (outcome limit c m s call).state rest later e t then)

  pub step_fine : (c m : Tape) (s : DeckState) (call : DeckCall) → Valid limit c s → Grown c (outcome limit c m s call).runs m → Fine limit c m (outcome limit c m s call)
  step_fine c m s call v g = fine (tape_replay c) (stands m) limit c m s call v g

  pub made_valid : (c : Tape) (s : DeckState) (ds : List AnsweredCall) (log : List CopyAt) (e : Tape) (t : DeckState) → Made limit c s ds log e t → Valid limit c s → Valid limit e t
  made_valid c s ds log e t no_call v = v
  made_valid c s ds log e t (call_more {ds = rest} {log = later} call m g then) v = made_valid m (outcome limit c m s call).state rest later e t then (step_fine c m s call v g).valid

  pub made-past : (c : Tape) (s : DeckState) (ds : List AnsweredCall) (log : List CopyAt) (e : Tape) (t : DeckState) → Made limit c s ds log e t → Valid limit c s → Past c log
  made-past c s ds log e t no_call v f i = elim i [ ]
  made-past c s ds log e t (call_more {ds = rest} {log = later} call m g then) v f i =
      let a = step_fine c m s call v g in
      in_append f (outcome limit c m s call).puts later i (λ j. (a.new f j).0)
      (λ j. omega (arith, made-past m (outcome limit c m s call).state rest later e t then a.valid f j, extends_length c m f.place.on (grown_extends (outcome limit c m s call).runs c m g)))

pub room_to_finish : RoomToFinish
room_to_finish room tracks ds log c s x d = (made_valid room (blank tracks) deck_idle ds log c (deck_recording s (item_pending x)) d tt).1
