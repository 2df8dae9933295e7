use Rattle.std.proofs.Common.{ℕ, length, ap, arith}
use Rattle.tape.specs.Tape.{track}
use Rattle.deck.proofs.CallRuns.{end_place-is}
use Rattle.deck.proofs.session.Session.stay_on.Goals as goal

pub start-requires : goal.start-requires
start-requires g c =
    let cells = g.C.Reading.cells c.args.head.now.cartridge.now in
    omega (arith, c.requires.fits, end_place-is cells, ap (λ (t : ℕ). length (track cells t)) c.requires.ends)
