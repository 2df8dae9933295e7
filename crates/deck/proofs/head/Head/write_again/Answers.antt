use Rattle.std.proofs.Common.{◌≡◌, ℕ, refl, ap, ◌∙◌, subst, arith}
use Rattle.qic24.specs.Copy.{held}
use Rattle.deck.specs.LastCopies.{came_out}
use Rattle.deck.specs.Measures.{more_writings}
use Rattle.deck.proofs.CameOut.{came_by}
use Rattle.deck.proofs.LoneWritings.{Lone, lone_none, lone_fit, lone_sent, lone_failed, lone_good, lone_last}
use Rattle.deck.proofs.SentCells.{whole_full}
use Rattle.deck.proofs.StayedHeads.{stays_here, stays_more}
use Rattle.deck.proofs.head.Head.write_again.Invariants.{medium}
use Rattle.deck.proofs.head.Head.write_again.Goals as goal

pub loop-writing-init : goal.loop-writing-init
loop-writing-init g c = (stays_here c.args.self.now, lone_none (medium g) (held c.args.pending.now) c.args.self.now.cartridge.now)

pub send_copy-requires : goal.send_copy-requires
send_copy-requires g c =
    let N = held c.args.pending.now in
    let i = c.loop-writing.invariant in
    omega (arith, c.loop-writing-test.true, lone_fit (medium g) N (whole_full N.content c.args.pending.now.whole) c.args.self.now.cartridge.now c.loop-writing.self.on c.loop-writing._writing c.loop-writing.self.cartridge.now (i.0.on ∙ c.requires.ends) c.requires.fits c.loop-writing.auto._writing-end i.1.sends)

pub loop-writing-preserved : goal.loop-writing-preserved
loop-writing-preserved g c =
    let N = held c.args.pending.now in
    let full = whole_full N.content c.args.pending.now.whole in
    let s = c.args.self.now.cartridge.now in
    let i = c.loop-writing.invariant in
    let on = i.0.on ∙ c.requires.ends in
    let stays = stays_more c.args.self.now c.loop-writing.self c.send_copy.new.self i.0 c.send_copy.ensures.stays in
    let sent = lone_sent (medium g) N full s c.loop-writing.self.on c.loop-writing._writing c.loop-writing.self.cartridge.now c.send_copy.new.self.cartridge.now on i.1 c.send_copy.ensures.sent in
    (stays, lone_failed (medium g) N full s c.send_copy.new.self.on c.loop-writing._writing c.send_copy.new.self.cartridge.now (stays.on ∙ c.requires.ends) sent c.if-stands_back.ensures)

pub returns-then-stands_back : goal.returns-then-stands_back
returns-then-stands_back g c =
    let N = held c.args.pending.now in
    let full = whole_full N.content c.args.pending.now.whole in
    let s = c.args.self.now.cartridge.now in
    let i = c.loop-writing.invariant in
    let on = i.0.on ∙ c.requires.ends in
    let stays = stays_more c.args.self.now c.loop-writing.self c.send_copy.new.self i.0 c.send_copy.ensures.stays in
    let sent = lone_sent (medium g) N full s c.loop-writing.self.on c.loop-writing._writing c.loop-writing.self.cartridge.now c.send_copy.new.self.cartridge.now on i.1 c.send_copy.ensures.sent in
    let w = lone_good (medium g) N full s c.send_copy.new.self.on c.loop-writing._writing c.send_copy.new.self.cartridge.now (stays.on ∙ c.requires.ends) c.loop-writing-test.true sent c.if-stands_back.ensures in
    record { stays = stays; sent = w.sent; answer = ap (came_out N) w.answer }

pub returns : goal.returns
returns g c =
    let N = held c.args.pending.now in
    let s = c.args.self.now.cartridge.now in
    let e = c.loop-writing.self.cartridge.now in
    let i = c.loop-writing.invariant in
    let all : c.loop-writing._writing ≡ more_writings = omega (arith, c.loop-writing-test.false, c.loop-writing.auto._writing-end) in
    let p = subst (λ (j : ℕ). Lone (medium g) N s j j e) all i.1 in
    let w = lone_last (medium g) N (whole_full N.content c.args.pending.now.whole) s c.loop-writing.self.on e _ (i.0.on ∙ c.requires.ends) p refl in
    record { stays = i.0; sent = w.sent; answer = came_by N c.check.result _ _ c.check.ensures w.answer }
