use Rattle.std.proofs.Common.{List, map, take, sym, subst, arith}
use Rattle.std.proofs.lemmas.List.{take_all, map_more, length-map, length-take-le}
use Rattle.tape.specs.Tape.{cell}
use Rattle.interval.specs.Gaps.{Spelled}
use Rattle.interval.proofs.Spelling.{spelled_none, spelled_then}
use Rattle.interval.proofs.interval.adding.add_cells.Goals as goal

pub add_cell-fill-requires : goal.add_cell-fill-requires
add_cell-fill-requires c = let few = c.loop-one.invariant.few in omega (arith, length-map (take c.loop-one.one-index c.args.sent.now) cell, length-take-le c.loop-one.one-index c.args.sent.now (omega arith))

pub loop-one-init : goal.loop-one-init
loop-one-init c = spelled_none c.args.fill c.args.bytes.now

pub loop-one-preserved : goal.loop-one-preserved
loop-one-preserved c =
    subst (λ (xs : List _). Spelled c.args.fill c.args.bytes.now xs c.add_cell-fill.new.bytes c.add_cell-fill.result)
    (sym (map_more cell c.args.sent.now c.loop-one.one-index 0 c.loop-one-test.true))
    (spelled_then _ _ _ _ _ _ _ _ c.loop-one.invariant c.add_cell-fill.ensures)

pub returns : goal.returns
returns c =
    subst (λ (xs : List _). Spelled c.args.fill c.args.bytes.now (map cell xs) c.loop-one.bytes c.loop-one.fill)
    (take_all c.loop-one.one-index c.args.sent.now c.loop-one-test.false) c.loop-one.invariant
