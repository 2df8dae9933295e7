use Rattle.std.proofs.Common.{◌≡◌, ℕ, ◌*◌, List, ◌++◌, length, sym, ap, ◌∙◌, subst, arith}
use Rattle.std.proofs.lemmas.List.{append_assoc, length-append}
use Rattle.qic24.specs.Copy.{body, data_cells, coded, address, two_bytes, item_crc, held}
use Rattle.qic24.specs.Pens.{Writes}
use Rattle.qic24.proofs.Binary.{coded-append, length-coded}
use Rattle.qic24.proofs.Pens.{writes-more, room-after}
use Rattle.qic24.proofs.pen.Pen.body.Goals as goal

pub bytes-requires : goal.bytes-requires
bytes-requires c =
    let l = ap (λ (z : List ℕ). length z) c.address.ensures in
    room-after c.args.self.now c.data.new.self (data_cells c.content.result.now) (length c.address.result * 10) c.data.ensures
    (omega (arith, c.requires, l, ap (λ x. length (data_cells x)) c.content.ensures, c.args.item.now.whole))

pub bytes-requires-2 : goal.bytes-requires-2
bytes-requires-2 c =
    let p = c.args.self.now in
    let d = data_cells c.content.result.now in
    let ld : length d ≡ 5120 = ap (λ x. length (data_cells x)) c.content.ensures ∙ c.args.item.now.whole in
    let la : length (coded c.address.result) ≡ 40 = ap (λ (z : List ℕ). length (coded z)) c.address.ensures ∙ length-coded (address c.args.track c.args.item.now.number) in
    let lk : length c.check_bytes.result ≡ 2 = ap (λ (z : List ℕ). length z) c.check_bytes.ensures in
    room-after p c.bytes.new.self (d ++ coded c.address.result) (length c.check_bytes.result * 10) (writes-more p c.data.new.self c.bytes.new.self d (coded c.address.result) (omega (arith, c.requires)) c.data.ensures c.bytes.ensures)
    (omega (arith, c.requires, length-append d (coded c.address.result)))

pub returns : goal.returns
unfolding body
returns c =
    let p = c.args.self.now in
    let i = held c.args.item.now in
    let d = data_cells i.content in
    let a = address c.args.track i.number in
    let k = two_bytes (item_crc c.args.track i) in
    let ld : length d ≡ 5120 = c.args.item.now.whole in
    let la : length (coded a) ≡ 40 = length-coded a in
    let w1 : Writes p c.data.new.self d = subst (λ x. Writes p c.data.new.self (data_cells x)) c.content.ensures c.data.ensures in
    let w2 : Writes c.data.new.self c.bytes.new.self (coded a) = subst (λ (z : List ℕ). Writes c.data.new.self c.bytes.new.self (coded z)) c.address.ensures c.bytes.ensures in
    let w3 : Writes c.bytes.new.self c.bytes-2.new.self (coded k) = subst (λ (z : List ℕ). Writes c.bytes.new.self c.bytes-2.new.self (coded z)) c.check_bytes.ensures c.bytes-2.ensures in
    let e : (d ++ coded a) ++ coded k ≡ d ++ coded (a ++ k) = append_assoc d (coded a) (coded k) ∙ ap (λ (z : List ℕ). d ++ z) (sym (coded-append a k)) in
    subst (Writes p c.bytes-2.new.self) e
    (writes-more p c.bytes.new.self c.bytes-2.new.self (d ++ coded a) (coded k) (omega (arith, c.requires, length-append d (coded a))) (writes-more p c.data.new.self c.bytes.new.self d (coded a) (omega (arith, c.requires)) w1 w2) w3)
