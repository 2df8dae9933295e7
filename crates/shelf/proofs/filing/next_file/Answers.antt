use Rattle.std.proofs.Common.{sym, ap, arith}
use Rattle.std.proofs.lemmas.Bool.{false≢true}
use Rattle.std.proofs.lemmas.Result.{err_from_is_err_and}
use Rattle.replay.specs.Copies.{OfCartridge}
use Rattle.shelf.specs.Shelf.{is_mark}
use Rattle.replay.proofs.Counts.{finds-end}
use Rattle.shelf.proofs.Files.{filing_start, steps_on, few, moves_further, block_next, mark_next, last_row, last_further, last_ended, beyond_row}
use Rattle.shelf.proofs.filing.next_file.Goals as goal

pub loop-item-init : goal.loop-item-init
loop-item-init g c = filing_start (g.C.Reading.cells c.args.cartridge.now) c.args.cursor.now

pub returns-in_err-item : goal.returns-in_err-item
returns-in_err-item g c =
    let p = err_from_is_err_and c.from_residual.result c.from_residual.ensures.1 in
    let is = beyond_row (g.C.Reading.cells c.args.cartridge.now) c.args.cursor.now c.loop-item.cursor c.loop-item.file c.loop-item.invariant c.in_err-item.field-0.0 c.in_err-item.ensures.answer in
    record { row = rw (p.1, p.2) is; further = rw p.1 tt; last = rw p.1 tt }

pub overflow_add-row : goal.overflow_add-row
overflow_add-row g c =
    let s = g.C.Reading.cells c.args.cartridge.now in
    let h : OfCartridge s = record { few = g.met.C.Reading.few c.args.cartridge.now; binary = g.met.C.Reading.binary c.args.cartridge.now } in
    let l = c.loop-item in
    let m = c.in_ok-item.ensures in
    omega (arith, few s h c.args.cursor.now l.cursor c.in_ok-item.field-0 c.in-Item.place c.in-Item.item c.in-Item.after c.in-Item.is m.answer m.after l.file l.invariant c.unwrap_or-row.result c.number.result c.number.ensures c.unwrap_or-row.ensures)

pub returns-in-Mark : goal.returns-in-Mark
returns-in-Mark g c =
    let s = g.C.Reading.cells c.args.cartridge.now in
    let h : OfCartridge s = record { few = g.met.C.Reading.few c.args.cartridge.now; binary = g.met.C.Reading.binary c.args.cartridge.now } in
    let l = c.loop-item in
    let m = c.in_ok-item.ensures in
    record {
      row = mark_next s h c.args.cursor.now l.cursor c.in_ok-item.field-0 c.in-Item.place c.in-Item.item c.in-Item.after c.in-Item.is m.answer m.after l.file l.invariant c.unwrap_or-row.result c.number.result c.number.ensures c.unwrap_or-row.ensures c.content.result.now c.content.ensures (ap is_mark c.in-Mark.is);
      further = moves_further s h c.args.cursor.now l.cursor c.in_ok-item.field-0 c.in-Item.place c.in-Item.item c.in-Item.after c.in-Item.is m.answer m.after l.file l.invariant c.unwrap_or-row.result c.number.result c.number.ensures c.unwrap_or-row.ensures;
      last = λ e. absurd (false≢true (sym e));
    }

pub loop-item-smaller : goal.loop-item-smaller
loop-item-smaller g c =
    let s = g.C.Reading.cells c.args.cartridge.now in
    let h : OfCartridge s = record { few = g.met.C.Reading.few c.args.cartridge.now; binary = g.met.C.Reading.binary c.args.cartridge.now } in
    let m = c.in_ok-item.ensures in
    (steps_on s h c.args.cursor.now c.loop-item.cursor c.in_ok-item.field-0 c.in-Item.place c.in-Item.item c.in-Item.after c.in-Item.is m.answer m.after).fewer

pub loop-item-preserved : goal.loop-item-preserved
loop-item-preserved g c =
    let s = g.C.Reading.cells c.args.cartridge.now in
    let h : OfCartridge s = record { few = g.met.C.Reading.few c.args.cartridge.now; binary = g.met.C.Reading.binary c.args.cartridge.now } in
    let l = c.loop-item in
    let m = c.in_ok-item.ensures in
    block_next s h c.args.cursor.now l.cursor c.in_ok-item.field-0 c.in-Item.place c.in-Item.item c.in-Item.after c.in-Item.is m.answer m.after l.file l.invariant c.unwrap_or-row.result c.number.result c.number.ensures c.unwrap_or-row.ensures c.content.result.now c.content.ensures (ap is_mark c.in-Block.is)

pub returns : goal.returns
returns g c =
    let s = g.C.Reading.cells c.args.cartridge.now in
    let l = c.loop-item in
    let e = finds-end s l.cursor c.in_ok-item.field-0 c.in_ok-item.ensures.answer c.in_default.field-0 c.in_default.is in
    record { row = last_row s c.args.cursor.now l.cursor l.file l.invariant c.in_default.field-0 e; further = last_further s c.args.cursor.now l.cursor l.file l.invariant; last = last_ended s c.args.cursor.now l.cursor l.file c.in_default.field-0 e }
