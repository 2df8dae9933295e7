use Rattle.std.proofs.Common.{arith}
use Rattle.std.proofs.lemmas.Bool.Decides.{nat_tests}
use Rattle.qic24.proofs.decoding.content.Goals as goal

pub returns-then-groups-ne0 : goal.returns-then-groups-ne0
returns-then-groups-ne0 c = grind (arith, nat_tests)
