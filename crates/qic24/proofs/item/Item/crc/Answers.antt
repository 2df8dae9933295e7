use Rattle.std.proofs.Common.{sym, ap, ◌∙◌}
use Rattle.qic24.specs.Copy.{counted, address}
use Rattle.qic24.specs.Crc.{crc_from}
use Rattle.qic24.proofs.Register.{crc_from-append}
use Rattle.qic24.proofs.item.Item.crc.Goals as goal

pub returns : goal.returns
returns c =
    let x = c.args.self.now.content in
    let a = address c.args.track c.args.self.now.number in
    c.feed_all.ensures ∙ ap (crc_from c.crc.result) c.address.ensures ∙ ap (λ v. crc_from v a) c.crc.ensures ∙ sym (crc_from-append (counted x) a 0xFFFF)
