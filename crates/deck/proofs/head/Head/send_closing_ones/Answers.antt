use Rattle.std.proofs.Common.{◌≡◌, ℕ, List, map, replicate, subst, arith}
use Rattle.tape.specs.Tape.{cell, run}
use Rattle.deck.specs.Measures.{closing_ones}
use Rattle.deck.proofs.SentCells.{sent-ones, taken}
use Rattle.deck.proofs.head.Head.send_closing_ones.Goals as goal

pub returns-clause-sent : goal.returns-clause-sent
returns-clause-sent g c =
    let s = c.args.self.now.cartridge.now in
    let on = c.args.self.now.on in
    subst (λ (x : List ℕ). g.C.Reading.takes s (run on x) c.append.new.self) (sent-ones closing_ones)
    (taken (g.C.Reading.cells s) (g.C.Reading.room s) on closing_ones c.append.result (λ _. g.C.Reading.takes s (run on (map cell (replicate closing_ones 1))) c.append.new.self) (λ _. c.append.new.self ≡ s) (c.args.self.now.there (omega (arith, c.requires))) c.requires c.append.ensures.answer c.append.ensures.tape)
