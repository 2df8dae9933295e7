use Rattle.std.proofs.Common.{rules}
use Rattle.script.specs.Instructions.{big_endian}
use Rattle.script.proofs.command.Command.size.Goals as goal

pub returns-in-Flaw : goal.returns-in-Flaw
unfolding big_endian
returns-in-Flaw c = search rules
