use Rattle.std.proofs.Common.{ℕ, ◌<◌, length, sym, subst}
use Rattle.deck.proofs.TakenItems.{some-track}
use Rattle.deck.proofs.TapeEnds.{end_track-there}
use Rattle.deck.proofs.head.Head.at_end.Goals as goal

pub invariant_of-result : goal.invariant_of-result
invariant_of-result g c =
    let m = c.args.cartridge.now in
    let cells = g.C.Reading.cells m in
    record { there = λ h. subst (λ (t : ℕ). t < length cells) (sym c.end_track-on.ensures) (end_track-there cells (some-track (g.C.Reading.room m) cells (g.met.C.Reading.empty m) h)) }
