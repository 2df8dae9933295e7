use Rattle.tape.proofs.Promised.{zeros_under_flaws}
use Rattle.tape.proofs.sheet.FlawSheet.enter.Goals as goal

pub returns-clause-zeros : goal.returns-clause-zeros
returns-clause-zeros g c = zeros_under_flaws g.C.Reading.cells g.C.Reading.takes
