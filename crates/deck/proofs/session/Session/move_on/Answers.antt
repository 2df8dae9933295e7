use Rattle.std.proofs.Common.{◌≡◌, ℕ, suc, cond, ltb, [], ◌∷◌, ◌++◌, length, Option, Err, refl, ap, ◌∙◌, subst, arith}
use Rattle.qic24.specs.Copy.{Numbered, held}
use Rattle.tape.specs.Tape.{track, Sends}
use Rattle.replay.specs.Scan.{stands}
use Rattle.deck.specs.CallContract.{Had}
use Rattle.deck.specs.Deck.{copy_run, first_preamble, first_on, finish_runs, alone_failures}
use Rattle.deck.specs.LastCopies.{last_copy}
use Rattle.deck.specs.Measures.{finish_room, most_writings}
use Rattle.deck.specs.State.{numbers_of}
use Rattle.deck.specs.Taking.{moves_on, written_answer, written_state}
use Rattle.deck.proofs.CallRuns.{past-end_track}
use Rattle.deck.proofs.TakenItems.{more-tracks, unchecked_number, room-enough, room-short, room-not-short, moved_none, moved}
use Rattle.deck.proofs.session.Session.move_on.Goals as goal

pub change_track-requires : goal.change_track-requires
change_track-requires g c =
    let m = c.args.head.now.cartridge.now in
    let room = g.C.Reading.room m in
    let cells = g.C.Reading.cells m in
    let more = more-tracks room cells c.requires.more in
    let fits = room-enough room finish_room cells c.args.head.now.on c.requires.ends (omega (arith, c.room_left.ensures, c.if-room_left-lt-FINISH_ROOM.false)) (omega arith) in
    record { next = omega (arith, c.requires.ends, more.1); left = record { ends = c.requires.ends; fits = fits }; roomy = more.0 }

pub start_next-requires : goal.start_next-requires
start_next-requires g c =
    let m = c.args.head.now.cartridge.now in
    let cells = g.C.Reading.cells m in
    let more = more-tracks (g.C.Reading.room m) cells c.requires.more in
    let none : track cells (suc c.args.head.now.on) ≡ _ = past-end_track cells (suc c.args.head.now.on) (omega (arith, c.requires.ends)) in
    record { next = omega (arith, c.requires.ends, more.1); fits = omega (arith, more.0, ap length none) }

pub returns-then-room_left-lt-FINISH_ROOM : goal.returns-then-room_left-lt-FINISH_ROOM
returns-then-room_left-lt-FINISH_ROOM g c =
    let m = c.args.head.now.cartridge.now in
    let room = g.C.Reading.room m in
    let cells = g.C.Reading.cells m in
    let s = numbers_of c.args.self.now in
    let N = held c.in-Some.pending in
    let M = held c.args.new.now in
    let x = c.from.result in
    let short = room-short room finish_room cells c.args.head.now.on c.requires.ends (omega (arith, c.room_left.ensures, c.if-room_left-lt-FINISH_ROOM.true)) in
    let had = subst (λ (u : Option Numbered). Had g.C.Reading.takes m m (written_state s M (Err x)) (written_answer s (Err x)) (moves_on room cells (stands cells) s u M)) c.in-Some.ensures
    (moved_none g.C.Reading.takes m room cells (stands cells) s N M x (c.from.ensures ∙ unchecked_number s.next c.args.self.now.phase N c.in-Some.ensures) short) in
    record { same = refl; had = had }

pub returns-else-room_left-lt-FINISH_ROOM : goal.returns-else-room_left-lt-FINISH_ROOM
returns-else-room_left-lt-FINISH_ROOM g c =
    let m = c.args.head.now.cartridge.now in
    let e = c.change_track.new.self.cartridge.now in
    let room = g.C.Reading.room m in
    let cells = g.C.Reading.cells m in
    let good = stands (g.C.Reading.cells e) in
    let s = numbers_of c.args.self.now in
    let N = held c.in-Some.pending in
    let M = held c.args.new.now in
    let r = c.change_track.result in
    let k = alone_failures room cells good (last_copy cells N) in
    let enough = room-not-short room finish_room cells c.args.head.now.on c.requires.ends (omega (arith, c.room_left.ensures, c.if-room_left-lt-FINISH_ROOM.false)) in
    let sent = subst (λ (t : ℕ). Sends g.C.Reading.takes m (finish_runs room cells (last_copy cells N) k ++ cond (ltb k most_writings) (copy_run (first_preamble cells (suc t)) (first_on room cells (suc t) M) ∷ []) []) e) c.requires.ends c.change_track.ensures.sent in
    let had = subst (λ (u : Option Numbered). Had g.C.Reading.takes m e (written_state s M r) (written_answer s r) (moves_on room cells good s u M)) c.in-Some.ensures
    (moved g.C.Reading.takes m room cells good s N M e r enough c.change_track.ensures.answer sent) in
    record { same = c.change_track.ensures.same; had = had }
