use Rattle.std.proofs.Common.{◌≡◌, ◌+◌, ◌≤◌, length, drop, Some, None, Ok, sym, ap, ◌∙◌, subst, arith}
use Rattle.script.specs.Instructions.{said, written}
use Rattle.script.specs.Reading.{next, end, told, read, taken}
use Rattle.script.specs.Fronts.{StandsAt}
use Rattle.script.proofs.Whole.{not_empty, written_then_read, read_then_written}
use Rattle.script.proofs.Counts.{counted_next, counted-ended}
use Rattle.script.proofs.inspection.inspect.Goals as goal
use Rattle.script.proofs.inspection.inspect.Goals.{in-Ok-None, in-Err}

pub loop-commands-preserved : goal.loop-commands-preserved
loop-commands-preserved c =
    let h = c.in-Ok-Some.ensures in
    let inv = c.loop-commands.invariant in
    let i = said c.in-Ok-Some.field-0-0 in
    let answer : next i ≡ told (Ok c.in-Ok-Some.field-0) = ap (λ o. told (Ok o)) (sym c.in-Ok-Some.field-0-is) in
    let on : c.next_command.new.self.place ≡ c.loop-commands.reader.place + length (written i) =
    h.place ∙ ap (λ a. c.loop-commands.reader.place + length (taken a)) (sym answer) in
    let command : next i ≡ read (drop c.loop-commands.reader.place c.loop-commands.reader.script.now) = answer ∙ h.command in
    let some = not_empty i in
    let more : c.loop-commands.commands + 1 ≤ c.next_command.new.self.place = omega (arith, inv.1) in (
      ap (λ x. x.now) h.script ∙ inv.0,
      more,
      counted_next c.args.script.now _ _ _ _ i _ (λ k. let f = c.type_inv.script k in omega arith) inv.0 command on inv.2,
    )

pub returns : goal.returns
returns c = record {
  inspection =
      let inv = c.loop-commands.invariant in
      elim c.match-next_command.branch [
        | in-Ok-None w ↦
            let h = w.in-Ok-None.ensures in
            let answer : told (Ok w.in-Ok-None.field-0) ≡ end = ap (λ o. told (Ok o)) w.in-Ok-None.field-0-is in
            let here = subst (StandsAt (drop c.loop-commands.reader.place c.loop-commands.reader.script.now)) answer h.exact.stands in
            let stays = c.place.ensures ∙ h.place ∙ ap (λ a. c.loop-commands.reader.place + length (taken a)) answer in
            ap (λ f. record { commands = c.loop-commands.commands; place = c.place.result; refusal = f }) w.refusal-is ∙
            counted-ended c.args.script.now _ _ _ _ None _ inv.0 here stays inv.2
        | in-Err w ↦
            let h = w.in-Err.ensures in
            ap (λ f. record { commands = c.loop-commands.commands; place = c.place.result; refusal = f }) w.refusal-is ∙
            counted-ended c.args.script.now _ _ _ _ (Some w.in-Err.refusal) _ inv.0 h.exact.stands (c.place.ensures ∙ h.place) inv.2
      ];
  written_then_read = written_then_read;
  read_then_written = read_then_written;
}
