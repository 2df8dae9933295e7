use Rattle.std.proofs.Common.{◌≡◌, ℕ, List, map, length, take, subst, arith}
use Rattle.std.proofs.lemmas.List.{length-take-le}
use Rattle.qic24.specs.Copy.{held, copy, preamble_ones}
use Rattle.tape.specs.Tape.{cell, run}
use Rattle.deck.proofs.CopyLengths.{length-copy}
use Rattle.deck.proofs.SentCells.{sent-copy, taken, whole_full}
use Rattle.deck.proofs.head.Head.send_copy.Goals as goal

pub returns-clause-sent : goal.returns-clause-sent
returns-clause-sent g c =
    let s = c.args.self.now.cartridge.now in
    let i = held c.args.item.now in
    let p = preamble_ones c.args.preamble in
    let n = c.encode-length.result in
    let buffer = c.encode-length.new.out in
    let on = c.args.self.now.on in
    let long = length-copy p on i (whole_full i.content c.args.item.now.whole) in
    let sent : map cell (take n buffer) ≡ copy p on i = sent-copy p on n i _ buffer c.encode-length.ensures.size c.encode-length.ensures.buffer in
    let count : length (take n buffer) ≡ n = length-take-le n buffer (omega (arith, c.encode-length.array_long, c.encode-length.ensures.bound)) in
    subst (λ (x : List ℕ). g.C.Reading.takes s (run on x) c.append.new.self) sent
    (taken (g.C.Reading.cells s) (g.C.Reading.room s) on (length (take n buffer)) c.append.result (λ _. g.C.Reading.takes s (run on (map cell (take n buffer))) c.append.new.self) (λ _. c.append.new.self ≡ s) (c.args.self.now.there (omega (arith, c.requires))) (omega (arith, c.requires, c.encode-length.ensures.size)) c.append.ensures.answer c.append.ensures.tape)
