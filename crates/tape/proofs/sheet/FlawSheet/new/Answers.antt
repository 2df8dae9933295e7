use Rattle.tape.proofs.Promised.{clear_sheet}
use Rattle.tape.proofs.sheet.FlawSheet.new.Goals as goal

pub returns-clause-clear : goal.returns-clause-clear
returns-clause-clear g c = clear_sheet g.C.Reading.cells g.C.Reading.takes g.met.C.Reading.grows
