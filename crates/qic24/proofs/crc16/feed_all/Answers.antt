use Rattle.std.proofs.Common.{get_or, drop, sym, ap, ◌∙◌}
use Rattle.std.proofs.lemmas.List.{at_drop_more, at_drop_all}
use Rattle.qic24.specs.Crc.{crc_from}
use Rattle.qic24.proofs.Register.{crc_from-more}
use Rattle.qic24.proofs.crc16.feed_all.Goals as goal

pub loop-byte-preserved : goal.loop-byte-preserved
loop-byte-preserved c =
    let bs = c.args.bytes.now in
    let i = c.loop-byte.byte-index in
    let r = c.loop-byte.after in
    let more = at_drop_more (crc_from r) bs i 0 c.loop-byte-test.true in
    let step = crc_from-more r (get_or bs i 0) (drop (Prim.Native.Nat.◌+◌ i 1) bs) in
    ap (λ v. crc_from v (drop (Prim.Native.Nat.◌+◌ i 1) bs)) c.feed-after.ensures ∙ sym step ∙ sym more ∙ c.loop-byte.invariant

pub returns : goal.returns
returns c = sym (at_drop_all (crc_from c.loop-byte.after) c.args.bytes.now c.loop-byte.byte-index c.loop-byte-test.false) ∙ c.loop-byte.invariant
