use Rattle.std.proofs.Common.{◌<◌, List, get_or, take, vec_items, vec_len, vec_capacity, refl, ◌∙◌, subst, arith}
use Rattle.std.proofs.ResultArms.{chosen}
use Rattle.std.proofs.lemmas.List.{take_all, take_more, length-take-le}
use Rattle.deck.specs.State.{deck_state}
use Rattle.deposit.specs.OperatorCalls.{Answer, call_of, answer_of}
use Rattle.deposit.specs.Operating.{CallsMade}
use Rattle.deposit.specs.declared.call.Call.{Call}
use Rattle.deposit.specs.declared.call.Call.TheVariants.{Begin}
use Rattle.deposit.proofs.JoinedCalls.{none_made, more_made, call-room}
use Rattle.deposit.proofs.operating.make_calls.Invariants.{medium}
use Rattle.deposit.proofs.operating.make_calls.Goals as goal

pub loop-call-init : goal.loop-call-init
loop-call-init g c =
    let d = c.args.operator.now.deck in
    (none_made (g.C.Reading.room d.cartridge) (g.C.Reading.cells d.cartridge) (deck_state d.session) (vec_items c.args.answers.now) c.requires.idle c.requires.empty, refl, c.requires.room)

pub loop-call-preserved : goal.loop-call-preserved
loop-call-preserved g c =
    let before = c.loop-call.operator.deck in
    let after = c.make_call-answer.new.operator.deck in
    let calls = c.args.calls.now in
    let i = c.loop-call.call-index in
    let w = c.loop-call.invariant.0 in
    let few : vec_len c.loop-call.answers < vec_capacity c.loop-call.answers = omega (arith, c.loop-call.answers.ok.0, w.each, length-take-le i calls (omega (arith, c.loop-call-test.true)), c.loop-call-test.true, c.loop-call.invariant.2) in
    let pushed = chosen {X = List Answer} _ _ _ _ c.push.ensures.items (c.push.ensures.succeeds few) in
    let more = more_made (medium g) c.args.operator.now.deck.cartridge before.cartridge after.cartridge (deck_state before.session) (deck_state after.session) (take i calls) (vec_items c.loop-call.answers) (get_or calls i Begin) c.make_call-answer.result c.loop-call.invariant.1 w c.make_call-answer.ensures in (
      rw (take_more calls i Begin c.loop-call-test.true, pushed) more,
      call-room (medium g) before.cartridge after.cartridge (deck_state before.session) (deck_state after.session) (call_of (get_or calls i Begin)) (answer_of c.make_call-answer.result) c.make_call-answer.ensures ∙ c.loop-call.invariant.1,
      omega (arith, c.loop-call.invariant.2, c.push.ensures.capacity),
    )

pub returns : goal.returns
returns g c =
    let d = c.args.operator.now.deck in
    let e = c.loop-call.operator.deck in
    record {
      made = subst (λ (cs : List Call). CallsMade (g.C.Reading.room d.cartridge) (g.C.Reading.cells d.cartridge) cs (vec_items c.loop-call.answers) (g.C.Reading.cells e.cartridge) (deck_state e.session)) (take_all c.loop-call.call-index c.args.calls.now c.loop-call-test.false) c.loop-call.invariant.0;
      same = c.loop-call.invariant.1;
    }
