-- What a deck holds of a recording, as its definitions speak of it.
use Rattle.std.specs.Prelude.{ℕ, ◌-◌, Some, None, Option}
use Rattle.qic24.specs.Copy.{Numbered}
use Rattle.qic24.specs.declared.item.Content.{Content}
use Rattle.qic24.specs.declared.item.Content.TheVariants.{Block, Mark}
use Rattle.deck.specs.Calls.{item_of}
use Rattle.deck.specs.Deck.{RecordingPhase, nothing_pending, item_pending, item_failed}
use Rattle.deck.specs.declared.pending.Pending.{Pending}
use Rattle.deck.specs.declared.pending.Pending.TheVariants as pending
use Rattle.deck.specs.declared.phase.Phase.{Phase}
use Rattle.deck.specs.declared.phase.Phase.TheVariants.{Clear, Unchecked, Failed}

-- what the unchecked item holds
abbrev pub pending_content : Pending → Content
pending_content pending.Mark = Mark
pending_content (pending.Block b) = Block b.bytes

-- where the recording stands
abbrev pub phase_of : Phase → RecordingPhase
phase_of Clear = nothing_pending
phase_of (Unchecked p) = item_pending (pending_content p)
phase_of (Failed e) = item_failed e.number

-- the least that the next number can be: an unchecked item has the number before it
abbrev pub least_next : Phase → ℕ
least_next Clear = 1
least_next (Unchecked p) = 2
least_next (Failed e) = 1

-- the item that is unchecked, if there is one; n is the next number
abbrev pub unchecked_item : ℕ → Phase → Option Numbered
unchecked_item n Clear = None
unchecked_item n (Unchecked p) = Some (item_of (n - 1) (pending_content p))
unchecked_item n (Failed e) = None
