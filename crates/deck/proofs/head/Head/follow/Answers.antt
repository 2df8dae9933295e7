use Rattle.std.proofs.Common.{◌≡◌, ℕ, length, sym, refl, ap, ◌∙◌, subst, arith}
use Rattle.qic24.specs.Copy.{held}
use Rattle.tape.specs.Tape.{track}
use Rattle.deck.specs.Deck.{end_place}
use Rattle.deck.specs.LastCopies.{came_out}
use Rattle.deck.specs.Measures.{more_writings}
use Rattle.deck.proofs.CallRuns.{end_place-is}
use Rattle.deck.proofs.CameOut.{came_by}
use Rattle.deck.proofs.PairWritings.{Pairs, pairs_first, pairs_since, pairs_fit, pairs_again, pairs_good, pairs_last}
use Rattle.deck.proofs.SentCells.{whole_full}
use Rattle.deck.proofs.StayedHeads.{stays_here, stays_more}
use Rattle.deck.proofs.head.Head.follow.Invariants.{medium}
use Rattle.deck.proofs.head.Head.follow.Goals as goal

pub send_copy-requires : goal.send_copy-requires
send_copy-requires g c =
    let on = c.args.self.now.on in
    let cells = g.C.Reading.cells c.args.self.now.cartridge.now in
    let long : length (track cells on) ≡ end_place cells = ap (λ (t : ℕ). length (track cells t)) c.requires.ends ∙ sym (end_place-is cells) in
    omega (arith, c.requires.fits)

pub loop-writing-init : goal.loop-writing-init
loop-writing-init g c =
    let b = c.send_copy.new.self in
    (stays_here b, pairs_first (medium g) (held c.args.pending.now) (held c.args.new.now) b.on b.cartridge.now)

pub loop-writing-preserved : goal.loop-writing-preserved
loop-writing-preserved g c =
    let N = held c.args.pending.now in
    let M = held c.args.new.now in
    let i = c.loop-writing.invariant in
    let e = c.loop-writing.self in (
      stays_more c.send_copy.new.self e c.send_pair.new.self i.0 c.send_pair.ensures.stays,
      λ s on sent. pairs_again (medium g) N M (whole_full N.content c.args.pending.now.whole) (whole_full M.content c.args.new.now.whole) s e.on c.loop-writing._writing e.cartridge.now c.send_pair.new.self.cartridge.now (i.0.on ∙ on) c.loop-writing-test.true (i.1 s on sent) c.if-stands_back.ensures c.send_pair.ensures.sent,
    )

pub send_pair-requires : goal.send_pair-requires
send_pair-requires g c =
    let N = held c.args.pending.now in
    let M = held c.args.new.now in
    let b = c.send_copy.new.self in
    let e = c.loop-writing.self in
    let s = c.args.self.now in
    let i = c.loop-writing.invariant in
    let p = pairs_since (medium g) N M s.on b.on c.loop-writing._writing s.cartridge.now b.cartridge.now e.cartridge.now c.send_copy.ensures.stays.on c.requires.ends c.send_copy.ensures.sent i.1 in
    pairs_fit (medium g) N M (whole_full N.content c.args.pending.now.whole) (whole_full M.content c.args.new.now.whole) s.cartridge.now e.on c.loop-writing._writing e.cartridge.now (i.0.on ∙ (c.send_copy.ensures.stays.on ∙ c.requires.ends)) c.requires.fits c.loop-writing-test.true p

pub returns-then-stands_back : goal.returns-then-stands_back
returns-then-stands_back g c =
    let N = held c.args.pending.now in
    let M = held c.args.new.now in
    let b = c.send_copy.new.self in
    let e = c.loop-writing.self in
    let s = c.args.self.now in
    let i = c.loop-writing.invariant in
    let stays = stays_more s b e c.send_copy.ensures.stays i.0 in
    let p = pairs_since (medium g) N M s.on b.on c.loop-writing._writing s.cartridge.now b.cartridge.now e.cartridge.now c.send_copy.ensures.stays.on c.requires.ends c.send_copy.ensures.sent i.1 in
    let w = pairs_good (medium g) N M (whole_full N.content c.args.pending.now.whole) (whole_full M.content c.args.new.now.whole) s.cartridge.now e.on c.loop-writing._writing e.cartridge.now (stays.on ∙ c.requires.ends) c.loop-writing.auto._writing-end p c.if-stands_back.ensures in
    record { stays = stays; sent = w.sent; answer = ap (came_out N) w.answer }

pub returns : goal.returns
returns g c =
    let N = held c.args.pending.now in
    let M = held c.args.new.now in
    let b = c.send_copy.new.self in
    let e = c.loop-writing.self in
    let s = c.args.self.now in
    let i = c.loop-writing.invariant in
    let stays = stays_more s b e c.send_copy.ensures.stays i.0 in
    let all : c.loop-writing._writing ≡ more_writings = omega (arith, c.loop-writing-test.false, c.loop-writing.auto._writing-end) in
    let p = pairs_since (medium g) N M s.on b.on c.loop-writing._writing s.cartridge.now b.cartridge.now e.cartridge.now c.send_copy.ensures.stays.on c.requires.ends c.send_copy.ensures.sent i.1 in
    let q = subst (λ (j : ℕ). Pairs (medium g) N M s.cartridge.now j e.cartridge.now) all p in
    let w = pairs_last (medium g) N M (whole_full N.content c.args.pending.now.whole) (whole_full M.content c.args.new.now.whole) s.cartridge.now e.on e.cartridge.now _ (stays.on ∙ c.requires.ends) q refl in
    record { stays = stays; sent = w.sent; answer = came_by N c.check.result _ _ c.check.ensures w.answer }
