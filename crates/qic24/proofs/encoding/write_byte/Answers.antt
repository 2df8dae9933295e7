use Rattle.std.proofs.Common.{◌++◌, length, ap, ◌∙◌, arith}
use Rattle.std.proofs.lemmas.List.{append-nil, drop_all}
use Rattle.qic24.specs.Cells.{byte_cells}
use Rattle.qic24.proofs.Binary.{length_byte}
use Rattle.qic24.proofs.Pens.{from-front}
use Rattle.qic24.proofs.encoding.write_byte.Goals as goal

pub returns : goal.returns
returns c =
    let o = c.args.cells.now in
    let b = byte_cells c.args.byte in
    let f = from-front c.new-pen.result c.byte.new.self o b c.new-pen.ensures.place c.new-pen.ensures.cells c.byte.ensures in
    f.1 ∙ ap (λ z. b ++ z) (drop_all (length b) o (omega (arith, length_byte c.args.byte, c.told-cells))) ∙ append-nil b
