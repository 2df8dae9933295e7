use Rattle.std.proofs.Common.{length, ◌∙◌, ap, arith, rules}
use Rattle.tape.proofs.Tapes.{track-none}
use Rattle.deck.proofs.TracksBack.{found_back}
use Rattle.deck.proofs.ending.end_track.Goals as goal
use borrow.Author.Tests.{tests}

pub returns : goal.returns
returns g c =
    let cells = g.C.Reading.cells c.args.cartridge.now in
    let ran = c.find.ensures.ran in
    let from = c.rev.ensures.source in
    c.unwrap_or.ensures ∙
    found_back cells _ _ (λ x b q k. search (rules, tests)) ran.0 _ _ _ c.find.result ran.1 (ap (λ r. r.start) from) (λ t l. ap length (track-none cells t (omega (arith, ap (λ r. r.end) from, c.tracks.ensures)))) ran.2.1 ran.2.2 ran.3 ran.4
