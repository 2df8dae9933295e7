-- What each call of a deck answers, sends and leaves, by the tape before it and the tape after it.
use Rattle.std.specs.Prelude.{ℕ, suc, ◌+◌, ◌-◌, ◌*◌, min, Bool, true, cond, List, [], ◌∷◌, ◌++◌, length, Option, ◌==◌, nat_le, nat_lt}
use Rattle.qic24.specs.Copy.{Numbered, ones, copy, preamble_ones}
use Rattle.qic24.specs.declared.item.Content.{Content}
use Rattle.qic24.specs.declared.item.Content.TheVariants.{Block, Mark}
use Rattle.qic24.specs.declared.layout.Preamble.{Preamble}
use Rattle.qic24.specs.declared.layout.Preamble.TheVariants.{Normal, Elongated, Long}
use Rattle.tape.specs.Tape.{Tape, track, Run, run}
use Rattle.deck.specs.Measures.{copy_tail, copy_head, normal_copy, closing_ones, most_writings, more_writings, item_room, finish_room, number_limit}
use Rattle.replay.specs.Copies.{place_on, CopyAt, placed}
use Rattle.replay.specs.declared.place.TapePlace.{TapePlace}
use Rattle.replay.specs.Replay.{ReplayState, expecting, not_located, ReplayProgress}
use Rattle.replay.specs.declared.unlocated.UnsoundOpening.{UnsoundOpening}
use Rattle.deck.specs.Calls.{DeckCall, begin_call, write_call, mark_call, stop_call, DeckAnswer, next_number, kept_total, refused_with, unwritable, unlocated, item_of}
use Rattle.deck.specs.Rewriting.{rewritten, rewritten_with, failed_writings}

-- where a recording stands
pub data RecordingPhase : Type 0 where
  nothing_pending : RecordingPhase  -- nothing of it is unchecked
  item_pending : Content → RecordingPhase  -- what the item still unchecked holds; its number is the one before the next
  item_failed : ℕ → RecordingPhase  -- the number that could not be written

-- the numbers of a recording: what begin answered, and the next
pub record RecordingNumbers : Type 0 where
  pub first : ℕ
  pub next : ℕ

-- what a deck keeps of a recording between two calls. Where its copies are is read off the tape
pub data DeckState : Type 0 where
  deck_idle : DeckState
  deck_recording : RecordingNumbers → RecordingPhase → DeckState

-- what a call does: its answer, the runs of cells that it sends in order, the copies among them, and what the deck then keeps
pub record CallOutcome : Type 0 where
  pub answer : DeckAnswer
  pub runs : List Run
  pub puts : List CopyAt
  pub state : DeckState

-- refused, with nothing sent and nothing changed
abbrev pub declines : ℕ → DeckState → CallOutcome
declines k s = record { answer = refused_with k; runs = []; puts = []; state = s }

-- a copy as a run of cells
abbrev pub copy_run : Preamble → CopyAt → Run
copy_run p f = run f.place.on (copy (preamble_ones p) f.place.on f.item)

-- copies with normal preambles, a run for each
abbrev pub copy_runs : List CopyAt → List Run
copy_runs [] = []
copy_runs (f ∷ fs) = copy_run Normal f ∷ copy_runs fs

-- the preamble of the first copy of a recording on a track
abbrev pub first_preamble : Tape → ℕ → Preamble
first_preamble c t = cond (length (track c t) == 0) Long Elongated

-- where the k-th of several copies with normal preambles is, if the first begins at `start`
abbrev pub copy_place : ℕ → ℕ → ℕ → TapePlace
copy_place t start k = place_on t (start + k * normal_copy + copy_head Normal)

-- how many tracks there are up to the last that has cells
abbrev pub tracks_used : Tape → ℕ
tracks_used [] = 0
tracks_used (x ∷ xs) = cond (nat_lt 0 (tracks_used xs)) (suc (tracks_used xs)) (cond (nat_lt 0 (length x)) 1 0)

-- the track where a recording goes on: the last that has cells, or the first. Shut, with the length of its cells, since they recur
unfoldable pub end_track : Tape → ℕ
end_track c = tracks_used c - 1

-- how many cells that track has
unfoldable pub end_place : Tape → ℕ
end_place c = length (track c (end_track c))

-- the pending item's last copy is the last on its track, with its postamble after it
abbrev pub pending_copy : Tape → RecordingNumbers → Content → CopyAt
pending_copy c s x = placed (place_on (end_track c) (end_place c - copy_tail)) (item_of (s.next - 1) x)

-- the item is taken under the next number, and is pending
abbrev pub accepts : RecordingNumbers → Numbered → List Run → List CopyAt → CallOutcome
accepts s M rs ps = record {
  answer = next_number s.next;
  runs = rs;
  puts = ps;
  state = deck_recording (record { first = s.first; next = suc s.next }) (item_pending M.content);
}

-- the pending item n can't be written
abbrev pub fails : RecordingNumbers → ℕ → List Run → List CopyAt → CallOutcome
fails s n rs ps = record { answer = unwritable n; runs = rs; puts = ps; state = deck_recording s (item_failed n) }

module _ (capacity : ℕ) (c : Tape) where
  -- where N goes when it is written again alone
  abbrev pub alone_at : ℕ → TapePlace
  alone_at j = copy_place (end_track c) (end_place c) (j - 1)

  -- N, of which m copies failed, is written until the copy before the last came out good, or sixteen times in all
  abbrev pub finish_puts : CopyAt → ℕ → List CopyAt
  finish_puts N m = rewritten alone_at N.item 1 (min (suc m) more_writings)

  -- and ones close the track where it came out good
  abbrev pub finish_runs : CopyAt → ℕ → List Run
  finish_runs N m = copy_runs (finish_puts N m) ++ cond (nat_lt m most_writings) (run (end_track c) (ones closing_ones) ∷ []) []

  -- the first copy of a recording on a track
  abbrev pub first_on : ℕ → Numbered → CopyAt
  first_on t M = placed (place_on t (length (track c t) + copy_head (first_preamble c t))) M

  -- M is the first item of a recording on the track t
  abbrev pub starts : RecordingNumbers → ℕ → Numbered → CallOutcome
  starts s t M = accepts s M (copy_run (first_preamble c t) (first_on t M) ∷ []) (first_on t M ∷ [])

  -- where N and M go when M follows N: M once, and then N and M in turn
  abbrev pub pending_at : ℕ → TapePlace
  pending_at j = copy_place (end_track c) (end_place c) (2 * j - 1)

  abbrev pub new_at : ℕ → TapePlace
  new_at j = copy_place (end_track c) (end_place c) (2 * j)

  abbrev pub pair_puts : CopyAt → Numbered → ℕ → List CopyAt
  pair_puts N M m = placed (new_at 0) M ∷ rewritten_with pending_at new_at N.item M 1 (min m more_writings)

  -- enough room on the track: M is appended, and N, of which m copies failed, is written again with it
  abbrev pub follows : RecordingNumbers → CopyAt → Numbered → ℕ → CallOutcome
  follows s N M m =
      cond (nat_lt m most_writings) (accepts s M (copy_runs (pair_puts N M m)) (pair_puts N M m))
      (fails s N.item.number (copy_runs (pair_puts N M m)) (pair_puts N M m))

  -- too little room: N is finished, and M goes to the next track
  abbrev pub changes_track : RecordingNumbers → CopyAt → Numbered → ℕ → CallOutcome
  changes_track s N M m =
      cond (nat_lt m most_writings)
      (accepts s M (finish_runs N m ++ (copy_run (first_preamble c (suc (end_track c))) (first_on (suc (end_track c)) M) ∷ [])) (finish_puts N m ++ (first_on (suc (end_track c)) M ∷ [])))
      (fails s N.item.number (finish_runs N m) (finish_puts N m))

  -- fewer cells are left than must be for one more item
  abbrev pub short_of_room : Bool
  short_of_room = nat_lt (capacity - end_place c) item_room

  -- fewer than finishing may need. From a new deck on this is never so while an item is pending
  abbrev pub short_to_finish : Bool
  short_to_finish = nat_lt (capacity - end_place c) finish_room

  -- no further track that could take an item
  abbrev pub media_ends : Bool
  media_ends = cond (nat_lt capacity item_room) true (nat_le (length c) (suc (end_track c)))

  -- how many writings of N failed, where good tells which came out so
  abbrev pub alone_failures : (CopyAt → Bool) → CopyAt → ℕ
  alone_failures good N = failed_writings good N alone_at

  abbrev pub pair_failures : (CopyAt → Bool) → CopyAt → ℕ
  pair_failures good N = failed_writings good N pending_at

  -- the next item M, by what is pending
  abbrev pub takes_item : (CopyAt → Bool) → RecordingNumbers → RecordingPhase → Numbered → CallOutcome
  takes_item good s (item_failed n) M = fails s n [] []
  takes_item good s nothing_pending M =
      cond (s.next == number_limit) (declines 13 (deck_recording s nothing_pending))
      (cond short_of_room (cond media_ends (declines 12 (deck_recording s nothing_pending)) (starts s (suc (end_track c)) M)) (starts s (end_track c) M))
  takes_item good s (item_pending x) M =
      cond (s.next == number_limit) (declines 13 (deck_recording s (item_pending x)))
      (cond short_of_room
      (cond media_ends (declines 12 (deck_recording s (item_pending x)))
      (cond short_to_finish (fails s (s.next - 1) [] []) (changes_track s (pending_copy c s x) M (alone_failures good (pending_copy c s x)))))
      (follows s (pending_copy c s x) M (pair_failures good (pending_copy c s x))))

  abbrev pub write_does : (CopyAt → Bool) → DeckState → List ℕ → CallOutcome
  write_does good deck_idle bs = declines 15 deck_idle
  write_does good (deck_recording s p) bs = cond (length bs == 512) (takes_item good s p (item_of s.next (Block bs))) (declines 1 (deck_recording s p))

  abbrev pub mark_does : (CopyAt → Bool) → DeckState → CallOutcome
  mark_does good deck_idle = declines 15 deck_idle
  mark_does good (deck_recording s p) = takes_item good s p (item_of s.next Mark)

  -- the recording closes
  abbrev pub closes : DeckAnswer → List Run → List CopyAt → CallOutcome
  closes a rs ps = record { answer = a; runs = rs; puts = ps; state = deck_idle }

  -- the answer tells how many items this recording has kept
  abbrev pub finishes : RecordingNumbers → CopyAt → ℕ → CallOutcome
  finishes s N m = closes (cond (nat_lt m most_writings) (kept_total (s.next - s.first)) (unwritable N.item.number)) (finish_runs N m) (finish_puts N m)

  abbrev pub stop_does : (CopyAt → Bool) → DeckState → CallOutcome
  stop_does good deck_idle = declines 15 deck_idle
  stop_does good (deck_recording s nothing_pending) = closes (kept_total (s.next - s.first)) [] []
  stop_does good (deck_recording s (item_failed n)) = closes (kept_total (s.next - s.first - 1)) [] []
  stop_does good (deck_recording s (item_pending x)) =
      cond short_to_finish (closes (unwritable (s.next - 1)) [] []) (finishes s (pending_copy c s x) (alone_failures good (pending_copy c s x)))

-- begin, by how the replay of the tape ended, with the last unsound opening
abbrev pub begins : ReplayState → Option UnsoundOpening → CallOutcome
begins (expecting out n passed) u = record { answer = next_number n; runs = []; puts = []; state = deck_recording (record { first = n; next = n }) nothing_pending }
begins (not_located out n p) u = record { answer = unlocated (record { expected = n; found = p; unsound = u }); runs = []; puts = []; state = deck_idle }

abbrev pub begin_does : ℕ → ReplayProgress → DeckState → CallOutcome
begin_does capacity r deck_idle = cond (nat_lt capacity item_room) (declines 11 deck_idle) (begins r.state r.unsound)
begin_does capacity r (deck_recording s p) = declines 16 (deck_recording s p)

-- each call: r is the replay of the tape before it, good judges on the tape after it
abbrev pub call_does : ReplayProgress → (CopyAt → Bool) → ℕ → Tape → DeckState → DeckCall → CallOutcome
call_does r good capacity c s begin_call = begin_does capacity r s
call_does r good capacity c s (write_call bs) = write_does capacity c good s bs
call_does r good capacity c s mark_call = mark_does capacity c good s
call_does r good capacity c s stop_call = stop_does capacity c good s
