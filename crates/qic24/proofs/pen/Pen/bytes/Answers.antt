use Rattle.std.proofs.Common.{get_or, take, sym, subst, arith}
use Rattle.std.proofs.lemmas.List.{length-take-le, take_all}
use Rattle.qic24.specs.Cells.{byte_cells}
use Rattle.qic24.specs.Copy.{coded}
use Rattle.qic24.specs.Pens.{Writes}
use Rattle.qic24.proofs.Binary.{length-coded, coded-more}
use Rattle.qic24.proofs.Pens.{writes-none, writes-more, room-after}
use Rattle.qic24.proofs.pen.Pen.bytes.Goals as goal

pub loop-byte-init : goal.loop-byte-init
loop-byte-init c = writes-none c.args.self.now

pub byte-requires : goal.byte-requires
byte-requires c =
    let bs = c.args.bytes.now in
    let i = c.loop-byte.byte-index in
    let h = c.loop-byte-test.true in
    room-after c.args.self.now c.loop-byte.self (coded (take i bs)) 10 c.loop-byte.invariant (omega (arith, c.requires, h, length-coded (take i bs), length-take-le i bs (omega arith)))

pub loop-byte-preserved : goal.loop-byte-preserved
loop-byte-preserved c =
    let bs = c.args.bytes.now in
    let i = c.loop-byte.byte-index in
    let h = c.loop-byte-test.true in
    subst (Writes c.args.self.now c.byte.new.self) (sym (coded-more bs i h))
    (writes-more c.args.self.now c.loop-byte.self c.byte.new.self (coded (take i bs)) (byte_cells (get_or bs i 0)) (omega (arith, c.requires, h, length-coded (take i bs), length-take-le i bs (omega arith))) c.loop-byte.invariant c.byte.ensures)

pub returns : goal.returns
returns c = subst (λ bs. Writes c.args.self.now c.loop-byte.self (coded bs)) (take_all c.loop-byte.byte-index c.args.bytes.now c.loop-byte-test.false) c.loop-byte.invariant
