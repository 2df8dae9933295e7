use Rattle.std.proofs.Common.{arith}
use Rattle.interval.proofs.GapReads.{copied_from}
use Rattle.interval.proofs.interval.copying.copy_cells.Goals as goal

pub returns : goal.returns
returns c k h =
    let p = c.pass_bytes-passed.ensures in
    copied_from c.pass_bytes-passed.result.0 c.pass_bytes-passed.result.1 c.args.place c.args.bytes.now c.fill.new.self c.set_ones.new.out p.cells p.before c.set_ones.ensures k (omega (arith, c.fill.ensures.len))
