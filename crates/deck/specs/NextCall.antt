-- What next does: its answer, the buffer, and where the replay then stands.
use Rattle.std.specs.Prelude.{ℕ, cond, List, ◌++◌, length, drop, Ok, Err, Result, nat_lt}
use Rattle.qic24.specs.declared.item.Content.{Content}
use Rattle.qic24.specs.declared.item.Content.TheVariants as content
use Rattle.tape.specs.Tape.{Tape}
use Rattle.replay.specs.Seeking.{FindResult, found_item, found_end, found_beyond, next_found, cursor_after}
use Rattle.replay.specs.declared.cursor.ReplayCursor.{ReplayCursor}
use Rattle.deck.specs.Deck.{DeckState, deck_idle, deck_recording}
use Rattle.deck.specs.declared.next.Next.{Next}
use Rattle.deck.specs.declared.next.Next.TheVariants.{Block, Mark, End}
use Rattle.deck.specs.declared.refusal.Refusal.{Refusal}
use Rattle.deck.specs.declared.refusal.Refusal.TheVariants.{WrongSize, StillRecording, Unlocated}

pub record NextOutcome : Type 0 where
  pub answer : Result Next Refusal
  pub buffer : List ℕ
  pub cursor : ReplayCursor

-- refused, with nothing changed
abbrev pub next_declined : Refusal → ReplayCursor → List ℕ → NextOutcome
next_declined e k buffer = record { answer = Err e; buffer = buffer; cursor = k }

-- the item that is handed out
abbrev pub handed : ℕ → Content → Next
handed n (content.Block bs) = Block n
handed n content.Mark = Mark n

-- a block fills the first 512 bytes of the buffer and leaves the others; a mark leaves all of it
abbrev pub filled : Content → List ℕ → List ℕ
filled (content.Block bs) buffer = bs ++ drop 512 buffer
filled content.Mark buffer = buffer

-- by what is found
abbrev pub next_by : ReplayCursor → List ℕ → FindResult → NextOutcome
next_by k buffer (found_item f) = record {
  answer = Ok (handed f.item.number f.item.content);
  buffer = filled f.item.content buffer;
  cursor = cursor_after k (found_item f);
}
next_by k buffer (found_end passed) = record { answer = Ok (End passed); buffer = buffer; cursor = k }
next_by k buffer (found_beyond w) = next_declined (Unlocated w) k buffer

-- next, on the cells of a tape, with the cursor where the replay stands
abbrev pub next_does : Tape → ReplayCursor → DeckState → List ℕ → NextOutcome
next_does c k (deck_recording s p) buffer = next_declined StillRecording k buffer
next_does c k deck_idle buffer = cond (nat_lt (length buffer) 512) (next_declined WrongSize k buffer) (next_by k buffer (next_found c k))

-- rewind
abbrev pub rewind_answer : DeckState → Result (Unit {0}) Refusal
rewind_answer (deck_recording s p) = Err StillRecording
rewind_answer deck_idle = Ok tt
