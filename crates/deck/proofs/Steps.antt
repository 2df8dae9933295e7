-- The steps that the agreement rests on: what a call may do to a log of copies, by what stands pending and by which copies come out good.
use Rattle.std.proofs.Common.{◌≡◌, ℕ, suc, ◌<◌, min, Bool, List, [], ◌∷◌, ◌++◌, filter}
use Rattle.qic24.specs.Cells.{fold}
use Rattle.qic24.specs.Copy.{Numbered}
use Rattle.deck.specs.Measures.{most_writings, more_writings}
use Rattle.replay.specs.Copies.{CopyAt, placed}
use Rattle.replay.specs.declared.place.TapePlace.{TapePlace}
use Rattle.replay.specs.Replay.{ReplayState, expecting, advance, rewound}
use Rattle.replay.specs.declared.unlocated.UnlocatedNumber.{UnlocatedNumber}
use Rattle.deck.specs.Calls.{DeckCall, begin_call, stop_call, next_number, kept_total, refused_with, unwritable, unlocated, AnsweredCall, handed_in}
use Rattle.deck.specs.Rewriting.{rewritten, rewritten_with, failed_writings}

-- the replay of the good copies of a log
abbrev pub replay_of : (CopyAt → Bool) → List CopyAt → ReplayState
replay_of good log = fold advance rewound (filter good log)

-- between two calls
pub data Standing : Type 0 where
  at_rest : Standing
  ready : ℕ → Standing  -- a recording is open, nothing is pending; the next number
  awaiting : ℕ → CopyAt → Standing  -- the next number, and the pending item's last copy
  unwritten : ℕ → Standing  -- the number that could not be written

-- the call d, from the standing before it to the one after it, puts these copies
pub data CallStep (good : CopyAt → Bool) : List CopyAt → Standing → AnsweredCall → List CopyAt → Standing → Type 0 where
  declined : {log : List CopyAt} {s : Standing} {call : DeckCall} (k : ℕ) → CallStep good log s (record { call = call; answer = refused_with k }) [] s
  declined_again : {log : List CopyAt} {n : ℕ} {call : DeckCall} → CallStep good log (unwritten n) (record { call = call; answer = unwritable n }) [] (unwritten n)
  begun : {log : List CopyAt} (out : List Numbered) (n : ℕ) (b : Bool) → replay_of good log ≡ expecting out n b → CallStep good log at_rest (record { call = begin_call; answer = next_number n }) [] (ready n)
  not_begun : {log : List CopyAt} {s : Standing} {call : DeckCall} (w : UnlocatedNumber) → CallStep good log s (record { call = call; answer = unlocated w }) [] s
  first-item : {log : List CopyAt} {n : ℕ} {call : DeckCall} (M : Numbered) (p : TapePlace) → handed_in call n ≡ M ∷ [] →
      CallStep good log (ready n) (record { call = call; answer = next_number n }) (placed p M ∷ []) (awaiting (suc n) (placed p M))
  followed : {log : List CopyAt} {n : ℕ} {N : CopyAt} {call : DeckCall} (M : Numbered) (at to : ℕ → TapePlace) (m : ℕ) → handed_in call n ≡ M ∷ [] → failed_writings good N at ≡ m → m < most_writings →
      CallStep good log (awaiting n N) (record { call = call; answer = next_number n }) (placed (to 0) M ∷ rewritten_with at to N.item M 1 m) (awaiting (suc n) (placed (to m) M))
  not_followed : {log : List CopyAt} {n : ℕ} {N : CopyAt} {call : DeckCall} (M : Numbered) (at to : ℕ → TapePlace) → handed_in call n ≡ M ∷ [] → failed_writings good N at ≡ most_writings →
      CallStep good log (awaiting n N) (record { call = call; answer = unwritable N.item.number }) (placed (to 0) M ∷ rewritten_with at to N.item M 1 more_writings) (unwritten N.item.number)
  changed_track : {log : List CopyAt} {n : ℕ} {N : CopyAt} {call : DeckCall} (M : Numbered) (at : ℕ → TapePlace) (p : TapePlace) (m : ℕ) → handed_in call n ≡ M ∷ [] → failed_writings good N at ≡ m → m < most_writings →
      CallStep good log (awaiting n N) (record { call = call; answer = next_number n }) (rewritten at N.item 1 (min (suc m) more_writings) ++ (placed p M ∷ [])) (awaiting (suc n) (placed p M))
  not_changed : {log : List CopyAt} {n : ℕ} {N : CopyAt} {call : DeckCall} (at : ℕ → TapePlace) → failed_writings good N at ≡ most_writings →
      CallStep good log (awaiting n N) (record { call = call; answer = unwritable N.item.number }) (rewritten at N.item 1 more_writings) (unwritten N.item.number)
  closed_clear : {log : List CopyAt} {n k : ℕ} → CallStep good log (ready n) (record { call = stop_call; answer = kept_total k }) [] at_rest
  closed_failed : {log : List CopyAt} {n k : ℕ} → CallStep good log (unwritten n) (record { call = stop_call; answer = kept_total k }) [] at_rest
  finished : {log : List CopyAt} {n k : ℕ} {N : CopyAt} (at : ℕ → TapePlace) (m : ℕ) → failed_writings good N at ≡ m → m < most_writings →
      CallStep good log (awaiting n N) (record { call = stop_call; answer = kept_total k }) (rewritten at N.item 1 (min (suc m) more_writings)) at_rest
  not_finished : {log : List CopyAt} {n : ℕ} {N : CopyAt} (at : ℕ → TapePlace) → failed_writings good N at ≡ most_writings →
      CallStep good log (awaiting n N) (record { call = stop_call; answer = unwritable N.item.number }) (rewritten at N.item 1 more_writings) at_rest

-- a list of calls with their answers, from one log and standing to another
pub data CallSteps (good : CopyAt → Bool) : List CopyAt → Standing → List AnsweredCall → List CopyAt → Standing → Type 0 where
  no_step : {log : List CopyAt} {s : Standing} → CallSteps good log s [] log s
  one_step : {log end : List CopyAt} {s m e : Standing} {d : AnsweredCall} {ds : List AnsweredCall} (puts : List CopyAt) → CallStep good log s d puts m → CallSteps good (log ++ puts) m ds end e → CallSteps good log s (d ∷ ds) end e
