use Rattle.tape.proofs.Replies.{reads_same}
use Rattle.tape.proofs.beside.read_both.Goals as goal

pub returns-clause-alike : goal.returns-clause-alike
returns-clause-alike g c =
    reads_same (g.C.Reading.cells c.args.c.now) (g.D.Reading.cells c.args.d.now) c.args.at c.args.place c.args.one.now c.read.new.out c.args.other.now c.read-2.new.out c.read.result c.read-2.result
    c.read.ensures.answer c.read-2.ensures.answer c.read.ensures.buffer c.read-2.ensures.buffer
