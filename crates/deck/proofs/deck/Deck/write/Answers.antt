use Rattle.std.proofs.Common.{◌≡◌, length, refl, rules}
use Rattle.replay.specs.Scan.{stands}
use Rattle.deck.specs.Refusals.{taken_answer}
use Rattle.deck.specs.State.{deck_state}
use Rattle.deck.proofs.TakenItems.{had_as, takes-block}
use Rattle.deck.proofs.deck.Deck.write.Goals as goal

pub returns-clause-had : goal.returns-clause-had
returns-clause-had g c =
    let m = c.args.self.now.cartridge in
    let e = c.take.new.self.cartridge in
    let t = deck_state c.take.new.self.session in
    let a = taken_answer c.take.result in
    let long : length c.args.block.now ≡ 512 = search rules in
    let same : c.in_ok-bytes.bytes ≡ c.args.block.now = search rules in
    had_as g.C.Reading.takes m e t t a a _ _ refl refl
    (takes-block (g.C.Reading.room m) (g.C.Reading.cells m) (stands (g.C.Reading.cells e)) (deck_state c.args.self.now.session) c.args.block.now c.in_ok-bytes.bytes long same) c.take.ensures.had
