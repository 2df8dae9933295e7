use Rattle.std.proofs.Common.{rules, ◌≡◌, ◌-◌, true, false, ltb, Err, sym, ap, ◌∙◌, subst, arith}
use Rattle.std.proofs.lemmas.Bool.{cond-true, cond-false}
use Rattle.qic24.specs.Copy.{held}
use Rattle.tape.specs.Tape.{Sends}
use Rattle.replay.specs.Scan.{stands}
use Rattle.deck.specs.Calls.{kept_total, unwritable}
use Rattle.deck.specs.Deck.{deck_recording, finish_runs, alone_failures, stop_does}
use Rattle.deck.specs.LastCopies.{last_copy}
use Rattle.deck.specs.Measures.{finish_room, most_writings}
use Rattle.deck.specs.Phases.{phase_of}
use Rattle.deck.specs.Refusals.{closed_answer}
use Rattle.deck.specs.State.{numbers_of}
use Rattle.deck.proofs.CameOut.{came_good, came_failed}
use Rattle.deck.proofs.TakenItems.{head-enough, head-short, head-not-short, closed_at, stopped_none, stopped}
use Rattle.deck.proofs.session.Session.close.Goals as goal

pub returns-then-room_left-lt-FINISH_ROOM : goal.returns-then-room_left-lt-FINISH_ROOM
returns-then-room_left-lt-FINISH_ROOM g c =
    let m = c.args.cartridge.now in
    let me = c.args.self.now in
    let h = c.at_end-head.ensures in
    let N = held c.in-Some.pending in
    let room = g.C.Reading.room m in
    let cells = g.C.Reading.cells m in
    let short = head-short g.C.Reading.room g.C.Reading.cells finish_room m c.at_end-head.result.cartridge.now c.at_end-head.result.on h.cartridge h.on (omega (arith, c.room_left.ensures, c.if-room_left-lt-FINISH_ROOM.true)) in
    closed_at g.C.Reading.takes g.C.Reading.cells m (λ good. stop_does room cells good (deck_recording (numbers_of me) (phase_of me.phase))) m _ _ (search rules)
    (stopped_none g.C.Reading.takes m room cells (stands cells) (numbers_of me) N N me.phase c.from.result.number c.in-Some.ensures c.from.ensures short)

pub finish-requires : goal.finish-requires
finish-requires g c =
    let h = c.at_end-head.ensures in
    head-enough g.C.Reading.room g.C.Reading.cells finish_room c.args.cartridge.now c.at_end-head.result.cartridge.now c.at_end-head.result.on h.cartridge h.on (omega (arith, c.room_left.ensures, c.if-room_left-lt-FINISH_ROOM.false)) (omega arith)

pub returns-in_err-finish : goal.returns-in_err-finish
returns-in_err-finish g c =
    let m = c.args.cartridge.now in
    let me = c.args.self.now in
    let s = numbers_of me in
    let h = c.at_end-head.ensures in
    let N = held c.in-Some.pending in
    let room = g.C.Reading.room m in
    let cells = g.C.Reading.cells m in
    let e = c.finish.new.self.cartridge.now in
    let x = c.in_err-finish.field-0.0 in
    let m_of = λ (z : _). alone_failures (g.C.Reading.room z) (g.C.Reading.cells z) (stands (g.C.Reading.cells e)) (last_copy (g.C.Reading.cells z) N) in
    let enough = head-not-short g.C.Reading.room g.C.Reading.cells finish_room m c.at_end-head.result.cartridge.now c.at_end-head.result.on h.cartridge h.on (omega (arith, c.room_left.ensures, c.if-room_left-lt-FINISH_ROOM.false)) in
    let sent = subst (λ (z : _). Sends g.C.Reading.takes z (finish_runs (g.C.Reading.room z) (g.C.Reading.cells z) (last_copy (g.C.Reading.cells z) N) (m_of z)) e) h.cartridge c.in_err-finish.ensures.sent in
    let failed = came_failed N _ _ c.in_err-finish.ensures.answer in
    let bad = subst (λ (z : _). ltb (m_of z) most_writings ≡ false) h.cartridge failed.0 in
    let same : c.from_residual.result ≡ Err x = search rules in
    let total = kept_total (s.next - s.first) in
    let answer = ap closed_answer same ∙ (ap unwritable failed.1 ∙ sym (cond-false (ltb (m_of m) most_writings) total (unwritable N.number) bad)) in
    closed_at g.C.Reading.takes g.C.Reading.cells m (λ good. stop_does room cells good (deck_recording s (phase_of me.phase))) e _ _ (search rules)
    (stopped g.C.Reading.takes m room cells (stands (g.C.Reading.cells e)) s N N e me.phase _ c.in-Some.ensures enough answer sent)

pub returns : goal.returns
returns g c =
    let m = c.args.cartridge.now in
    let me = c.args.self.now in
    let s = numbers_of me in
    let h = c.at_end-head.ensures in
    let N = held c.in-Some.pending in
    let room = g.C.Reading.room m in
    let cells = g.C.Reading.cells m in
    let e = c.finish.new.self.cartridge.now in
    let m_of = λ (z : _). alone_failures (g.C.Reading.room z) (g.C.Reading.cells z) (stands (g.C.Reading.cells e)) (last_copy (g.C.Reading.cells z) N) in
    let enough = head-not-short g.C.Reading.room g.C.Reading.cells finish_room m c.at_end-head.result.cartridge.now c.at_end-head.result.on h.cartridge h.on (omega (arith, c.room_left.ensures, c.if-room_left-lt-FINISH_ROOM.false)) in
    let sent = subst (λ (z : _). Sends g.C.Reading.takes z (finish_runs (g.C.Reading.room z) (g.C.Reading.cells z) (last_copy (g.C.Reading.cells z) N) (m_of z)) e) h.cartridge c.in_ok-finish.ensures.sent in
    let good = subst (λ (z : _). ltb (m_of z) most_writings ≡ true) h.cartridge (came_good N _ _ c.in_ok-finish.ensures.answer) in
    let total = kept_total (s.next - s.first) in
    let answer = ap kept_total c.taken-2.ensures ∙ sym (cond-true (ltb (m_of m) most_writings) total (unwritable N.number) good) in
    closed_at g.C.Reading.takes g.C.Reading.cells m (λ good. stop_does room cells good (deck_recording s (phase_of me.phase))) e _ _ (search rules)
    (stopped g.C.Reading.takes m room cells (stands (g.C.Reading.cells e)) s N N e me.phase _ c.in-Some.ensures enough answer sent)
