-- List and tape agree: the proofs.
use Rattle.std.proofs.Common.{◌≡◌, List, sym, ap, ◌∙◌, subst}
use Rattle.qic24.specs.Cells.{fold}
use Rattle.tape.specs.Tape.{Tape}
use Rattle.replay.specs.Replay.{advance, rewound, replay_items, NumberedFrom}
use Rattle.replay.specs.Scan.{sound_copies}
use Rattle.deck.specs.Calls.{AnsweredCall}
use Rattle.shelf.specs.Shelf.{shelf_list}
use Rattle.deck.specs.Agreement.{Deposit, kept_by_both, replayed, HandedOver, EqualReplays, EqualShelves, ListAndTape}
use Rattle.deck.proofs.KeptLists.{two_operators}
use Rattle.replay.proofs.Orders.{found}
use Rattle.replay.proofs.SoundCopies.{lists_sound_copies}
use Rattle.replay.proofs.Replaying.{replays_sound_copies, replays_in_order}
use Rattle.deck.proofs.MadeSteps.{Recorded, recorded}
use Rattle.deck.proofs.ShelfLists.{equal_shelves}

deposited : (c : Tape) (one two : List AnsweredCall) → Deposit c one two → Recorded c one two
deposited c one two d = recorded d.room d.tracks one two d.log_one d.log_two d.middle c d.by_one d.by_two d.cells d.no_false

pub handed_over : HandedOver
handed_over c one two d =
    let r = deposited c one two d in
    let e = found r.good c (sound_copies c) r.log (lists_sound_copies c d.cells) r.ordered (λ f. (r.decides f).0) (λ f. (r.decides f).1) r.no_false in
    let a = two_operators r.good one two r.middle r.log r.by_one r.by_two in
    (a.0, replays_sound_copies c ∙ (ap (fold advance rewound) e ∙ a.1))

replay-kept : (c : Tape) (one two : List AnsweredCall) → Deposit c one two → replayed c ≡ kept_by_both one two
replay-kept c one two d = ap replay_items (handed_over c one two d).1

kept_numbered : (c : Tape) (one two : List AnsweredCall) → Deposit c one two → NumberedFrom 1 (kept_by_both one two)
kept_numbered c one two d = subst (NumberedFrom 1) (replay-kept c one two d) (replays_in_order c)

pub equal_replays : EqualReplays
equal_replays c d one two three four x y =
    let a = replay-kept c one two x in
    let b = replay-kept d three four y in
    (λ e. sym a ∙ (e ∙ b), λ e. a ∙ (e ∙ sym b))

pub shelves : EqualShelves
shelves c d one two three four x y =
    let a = ap shelf_list (replay-kept c one two x) in
    let b = ap shelf_list (replay-kept d three four y) in
    let w = equal_shelves 1 (kept_by_both one two) (kept_by_both three four) (kept_numbered c one two x) (kept_numbered d three four y) in
    (λ e. w.0 (sym a ∙ (e ∙ b)), λ e. a ∙ (w.1 e ∙ sym b))

pub list_and_tape : ListAndTape
list_and_tape = (handed_over, equal_replays, shelves)
