use Rattle.std.proofs.Common.{ℕ, length, ap, arith}
use Rattle.qic24.specs.Copy.{held, copy, preamble_ones}
use Rattle.qic24.specs.declared.layout.Preamble.TheVariants.{Normal}
use Rattle.tape.specs.Tape.{track, run}
use Rattle.deck.proofs.CallRuns.{longer_length}
use Rattle.deck.proofs.CopyLengths.{length-copy}
use Rattle.deck.proofs.SentCells.{whole_full}
use Rattle.deck.proofs.head.Head.send_pair.Goals as goal

pub send_copy-requires-2 : goal.send_copy-requires-2
send_copy-requires-2 g c =
    let s = c.args.self.now.cartridge.now in
    let on = c.args.self.now.on in
    let e = c.send_copy.new.self.cartridge.now in
    let N = held c.args.pending.now in
    let r = run on (copy (preamble_ones Normal) on N) in
    let grew = longer_length r (g.C.Reading.cells s) (g.C.Reading.cells e) (g.met.C.Reading.grows s r e c.send_copy.ensures.sent) in
    let long = length-copy (preamble_ones Normal) on N (whole_full N.content c.args.pending.now.whole) in
    let same = ap (λ (t : ℕ). length (track (g.C.Reading.cells e) t)) c.send_copy.ensures.stays.on in
    omega (arith, grew, long, same, g.met.C.Reading.keeps s r e c.send_copy.ensures.sent, c.requires)
