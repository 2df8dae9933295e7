use Rattle.std.proofs.Common.{sym, subst, arith}
use Rattle.qic24.specs.Cells.{mark_cells}
use Rattle.qic24.specs.Pens.{Writes}
use Rattle.qic24.proofs.Binary.{marks, length-marks, marks-more, mark_cells-is, mark_data-at}
use Rattle.qic24.proofs.Pens.{writes-none, writes-more, room-after}
use Rattle.qic24.proofs.pen.Pen.marks.Goals as goal

pub loop-mark-init : goal.loop-mark-init
loop-mark-init c = writes-none c.args.self.now

pub cells-requires : goal.cells-requires
cells-requires c =
    let i = c.loop-mark._mark in
    room-after c.args.self.now c.loop-mark.self (marks i) 10 c.loop-mark.invariant (omega (arith, c.requires, length-marks i))

pub loop-mark-preserved : goal.loop-mark-preserved
loop-mark-preserved c =
    let i = c.loop-mark._mark in
    subst (Writes c.args.self.now c.cells.new.self) (sym (marks-more i))
    (writes-more c.args.self.now c.loop-mark.self c.cells.new.self (marks i) mark_cells (omega (arith, c.requires, length-marks i)) c.loop-mark.invariant (subst (Writes c.loop-mark.self c.cells.new.self) (sym mark_cells-is) c.cells.ensures))

pub returns : goal.returns
returns c = subst (Writes c.args.self.now c.loop-mark.self) (mark_data-at c.loop-mark._mark (omega arith)) c.loop-mark.invariant
