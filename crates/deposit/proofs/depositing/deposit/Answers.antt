use Rattle.std.proofs.Common.{◌∙◌}
use Rattle.std.proofs.lemmas.Result.{IfOk-weaker}
use Rattle.replay.specs.Copies.{OfCartridge}
use Rattle.replay.specs.Seeking.{tape_replay}
use Rattle.deposit.specs.Depositing.{KeptThenEnd}
use Rattle.deposit.specs.WholeReplay.{Replays}
use Rattle.deposit.proofs.Deposits.{in_turn, kept_then_end}
use Rattle.deposit.proofs.depositing.deposit.Goals as goal

pub returns : goal.returns
returns g c =
    let room = g.C.Reading.room in
    let cells = g.C.Reading.cells in
    let start = c.args.cartridge in
    let one = c.args.one.now in
    let two = c.args.two.now in
    let a = c.operate-cartridge.result.1 in
    let middle = c.operate-cartridge.result.0 in
    let b = c.operate-cartridge-2.result.1 in
    let last = c.operate-cartridge-2.result.0 in
    let h : OfCartridge (cells last) = record { few = g.met.C.Reading.few last; binary = g.met.C.Reading.binary last } in
    record {
      operators = in_turn room cells start middle last one a two b c.operate-cartridge.ensures.made c.operate-cartridge.ensures.same c.operate-cartridge-2.ensures.made;
      capacity = c.operate-cartridge-2.ensures.same ∙ c.operate-cartridge.ensures.same;
      replay = c.replay_all-replay.ensures;
      kept = IfOk-weaker c.replay_all-replay.result (λ p. Replays p (tape_replay (cells last))) (λ p. KeptThenEnd (room start) (cells start) one a two b (cells last) p) (λ p. kept_then_end (room start) (cells start) one a two b (cells last) p h) c.replay_all-replay.ensures;
    }
