use Rattle.std.proofs.Common.{◌≡◌, take}
use Rattle.tape.specs.Flaws.{masked}
use Rattle.tape.specs.FlawTables.{table_flaws}
use Rattle.tape.proofs.table.FlawTable.mask_into.Given as goal

-- the cells before i are masked
abbrev pub invariant-loop-i : goal.invariant-loop-i
invariant-loop-i l = take l.i l.out ≡ masked (table_flaws l.self) l.run.on l.run.place (take l.i l.run.sent.now)
