use Rattle.std.proofs.Common.{rules, ◌≡◌, ap, ◌∙◌}
use Rattle.tape.specs.Tape.{track}
use Rattle.qic24.specs.Copy.{held}
use Rattle.qic24.specs.Decode.{mapped_ok}
use Rattle.replay.specs.Answered.{opened}
use Rattle.replay.proofs.Parts.{read-decoded}
use Rattle.replay.proofs.scanning.read_copy.Goals as goal

pub returns : goal.returns
returns g c =
    let s = c.args.cartridge.now in
    let p = c.args.place in
    let d = c.decode.ensures.answer ∙ read-decoded p.on p.at (track (g.C.Reading.cells s) p.on) c.read_part.result.now (g.met.C.Reading.binary s p.on) c.read_part.ensures in
    let m : mapped_ok held c.map_err.result ≡ opened p (mapped_ok held c.decode.result) = search rules in
    m ∙ ap (opened p) d
