use Rattle.std.proofs.Common.{sym, arith}
use Rattle.std.proofs.lemmas.List.{set_past}
use Rattle.shelf.proofs.survey.put_row.Goals as goal

pub returns-else-at-rows : goal.returns-else-at-rows
returns-else-at-rows c = sym (set_past c.args.rows.now c.args.at c.args.row (omega arith))
