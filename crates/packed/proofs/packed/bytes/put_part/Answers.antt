use Rattle.std.proofs.Common.{◌/◌, ◌<◌, length, sym, arith}
use Rattle.std.proofs.lemmas.Bool.{eqb-false}
use Rattle.packed.proofs.Puts.{put_byte}
use Rattle.packed.proofs.packed.bytes.put_part.Goals as goal

pub returns-then-not-is_empty : goal.returns-then-not-is_empty
returns-then-not-is_empty c =
    let some : 0 < length c.args.sent.now = omega (arith, eqb-false (length c.args.sent.now) 0 (sym c.if-not-is_empty.ensures)) in
    put_byte 0 c.args.place (c.args.place / 8) c.merged.result c.args.sent.now c.args.bytes.now (omega arith) some c.requires.part (omega arith) c.merged.ensures
