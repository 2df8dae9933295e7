use Rattle.std.proofs.Common.{eqb, refl, arith}
use Rattle.interval.proofs.Spelling.{spelled_short, spelled_long}
use Rattle.interval.proofs.interval.adding.add_cell.Goals as goal

pub returns-then-zeros-from : goal.returns-then-zeros-from
returns-then-zeros-from c = spelled_short (eqb c.args.sent 0) c.from-one.result c.args.fill _ c.args.bytes.now c.requires c.from-one.ensures refl refl

pub returns : goal.returns
returns c = spelled_long (eqb c.args.sent 0) c.from-one.result c.args.fill _ c.args.bytes.now c.requires c.from-one.ensures (omega arith) refl refl
