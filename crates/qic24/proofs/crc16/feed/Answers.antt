use Rattle.std.proofs.Common.{◌/◌, ◌<◌, ap, ◌∙◌, arith, rules}
use lib.Bits.{bit_xor, xor_lt}
use Rattle.qic24.proofs.Register.{by_table}
use Rattle.qic24.proofs.crc16.feed.Goals as goal

pub bounds-remainders-index : goal.bounds-remainders-index
bounds-remainders-index c =
    let h = xor_lt 8 (c.args.register / 256) c.from.result (omega arith) (omega arith) in
    omega (arith, h, c.from-index.ensures)

pub offset_bounds-remainders-index : goal.offset_bounds-remainders-index
offset_bounds-remainders-index c =
    let h = xor_lt 8 (c.args.register / 256) c.from.result (omega arith) (omega arith) in
    let e = c.from-index.ensures in
    let i : c.from-index.result < 256 = omega arith in search rules

pub returns : goal.returns
returns c =
    let e = c.from-index.ensures ∙ ap (bit_xor (c.args.register / 256)) c.from.ensures in
    rw e (by_table c.remainders.result.now c.args.register c.args.byte (omega arith) (omega arith) c.remainders.ensures)
