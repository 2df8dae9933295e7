-- The flaws in a table.
use Rattle.std.specs.Prelude.{List}
use Rattle.tape.specs.declared.flaw.Flaw.{Flaw}
use Rattle.tape.specs.declared.table.FlawTable.{FlawTable}

-- those that were entered, in their order
abbrev pub table_flaws : FlawTable → List Flaw
table_flaws t = t.flaws.items
