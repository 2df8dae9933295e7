use Rattle.std.proofs.Common.{rules, ◌≡◌, true, false, cond, eqb, Some, None, refl, subst, arith}
use Rattle.qic24.specs.Copy.{held}
use Rattle.replay.specs.Scan.{stands}
use Rattle.deck.specs.Calls.{item_of, refused_with}
use Rattle.deck.specs.CallContract.{Had}
use Rattle.deck.specs.Deck.{short_of_room, media_ends, takes_item}
use Rattle.deck.specs.Phases.{phase_of, unchecked_item}
use Rattle.deck.specs.Refusals.{taken_answer}
use Rattle.deck.specs.Measures.{item_room, number_limit}
use Rattle.deck.specs.State.{numbers_of, session_state}
use Rattle.deck.specs.Taking.{stays_on, moves_on, written_answer, written_state}
use Rattle.deck.proofs.TakenItems.{had_as, item-made, takes_none, takes_moving, takes_staying, head-enough, head-short, head-not-short, head-ends, settled, kept_unless}
use Rattle.deck.proofs.session.Session.take.Goals as goal
use Rattle.deck.proofs.session.Session.take.Goals.{then-room_left-lt-ITEM_ROOM+else-media_ends, else-room_left-lt-ITEM_ROOM}

pub returns-then-media_ends : goal.returns-then-media_ends
returns-then-media_ends g c =
    let m = c.args.cartridge.now in
    let room = g.C.Reading.room m in
    let cells = g.C.Reading.cells m in
    let s = numbers_of c.args.self.now in
    let M = item_of s.next c.args.content.now in
    let h = c.at_end-head.ensures in
    let N = held c.in_ok-new.new in
    let told : Some N ≡ cond (eqb s.next number_limit) None (Some M) = search rules in
    let made = item-made (eqb s.next number_limit) N M told in
    let short : short_of_room room cells ≡ true = head-short g.C.Reading.room g.C.Reading.cells item_room m c.at_end-head.result.cartridge.now c.at_end-head.result.on h.cartridge h.on (omega (arith, c.room_left.ensures, c.if-room_left-lt-ITEM_ROOM.true)) in
    let ends : media_ends room cells ≡ true = head-ends g.C.Reading.room g.C.Reading.cells item_room m c.at_end-head.result.cartridge.now c.at_end-head.result.on h.cartridge h.on true c.if-media_ends.ensures in
    let old = session_state c.args.self.now in
    record {
      had = had_as g.C.Reading.takes m _ old old (refused_with 12) (refused_with 12) _ _ refl refl (takes_none room cells _ s M c.args.self.now.phase c.in_default.not-Failed made.0 short ends) (record { answers = refl; sends = search rules; leaves = refl });
      kept = λ _. (refl, search rules);
    }

pub stay_on-written-requires : goal.stay_on-written-requires
stay_on-written-requires g c =
    let h = c.at_end-head.ensures in
    head-enough g.C.Reading.room g.C.Reading.cells item_room c.args.cartridge.now c.at_end-head.result.cartridge.now c.at_end-head.result.on h.cartridge h.on (omega (arith, c.room_left.ensures, c.if-room_left-lt-ITEM_ROOM.false)) (omega arith)

pub returns : goal.returns
returns g c =
    let m = c.args.cartridge.now in
    let room = g.C.Reading.room m in
    let cells = g.C.Reading.cells m in
    let me = c.args.self.now in
    let s = numbers_of me in
    let h = c.at_end-head.ensures in
    let N = held c.in_ok-new.new in
    let M = item_of s.next c.args.content.now in
    let after = c.if-room_left-lt-ITEM_ROOM.cartridge in
    let b = c.if-room_left-lt-ITEM_ROOM.written in
    let told : Some N ≡ cond (eqb s.next number_limit) None (Some M) = search rules in
    let made = item-made (eqb s.next number_limit) N M told in
    let had : Had g.C.Reading.takes m after (session_state c.settle.new.self) (taken_answer c.settle.result) (takes_item room cells (stands (g.C.Reading.cells after)) s (phase_of me.phase) M) =
    elim c.if-room_left-lt-ITEM_ROOM.branch [
      | then-room_left-lt-ITEM_ROOM+else-media_ends w ↦
          let short : short_of_room room cells ≡ true = head-short g.C.Reading.room g.C.Reading.cells item_room m c.at_end-head.result.cartridge.now c.at_end-head.result.on h.cartridge h.on (omega (arith, c.room_left.ensures, w.if-room_left-lt-ITEM_ROOM.true)) in
          let goes_on : media_ends room cells ≡ false = head-ends g.C.Reading.room g.C.Reading.cells item_room m c.at_end-head.result.cartridge.now c.at_end-head.result.on h.cartridge h.on false w.if-media_ends.ensures in
          let last = w.move_on-written.new.head.cartridge.now in
          let r = w.move_on-written.result in
          let moved = subst (λ (z : _). Had g.C.Reading.takes z last (written_state s N r) (written_answer s r) (moves_on (g.C.Reading.room z) (g.C.Reading.cells z) (stands (g.C.Reading.cells last)) s (unchecked_item s.next me.phase) N)) h.cartridge w.move_on-written.ensures.had in
          settled g.C.Reading.takes g.C.Reading.cells m s (λ good i. moves_on room cells good s (unchecked_item s.next me.phase) i) after last b r N M
          (session_state c.settle.new.self) (taken_answer c.settle.result) _ (search rules) w.written-is made.1 c.settle.ensures.state c.settle.ensures.answer
          (takes_moving room cells (stands (g.C.Reading.cells after)) s M me.phase c.in_default.not-Failed made.0 short goes_on) moved
      | else-room_left-lt-ITEM_ROOM w ↦
          let enough : short_of_room room cells ≡ false = head-not-short g.C.Reading.room g.C.Reading.cells item_room m c.at_end-head.result.cartridge.now c.at_end-head.result.on h.cartridge h.on (omega (arith, c.room_left.ensures, w.if-room_left-lt-ITEM_ROOM.false)) in
          let last = w.stay_on-written.new.head.cartridge.now in
          let r = w.stay_on-written.result in
          let stayed = subst (λ (z : _). Had g.C.Reading.takes z last (written_state s N r) (written_answer s r) (stays_on (g.C.Reading.room z) (g.C.Reading.cells z) (stands (g.C.Reading.cells last)) s (unchecked_item s.next me.phase) N)) h.cartridge w.stay_on-written.ensures.had in
          settled g.C.Reading.takes g.C.Reading.cells m s (λ good i. stays_on room cells good s (unchecked_item s.next me.phase) i) after last b r N M
          (session_state c.settle.new.self) (taken_answer c.settle.result) _ (search rules) w.written-is made.1 c.settle.ensures.state c.settle.ensures.answer
          (takes_staying room cells (stands (g.C.Reading.cells after)) s M me.phase c.in_default.not-Failed made.0 enough) stayed
    ] in
    record { had = had; kept = kept_unless _ c.settle.result c.settle.ensures.number }
