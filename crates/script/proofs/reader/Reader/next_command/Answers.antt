use Rattle.std.proofs.Common.{◌≡◌, ℕ, ◌+◌, ◌≤◌, length, Some, None, Ok, Option, MatchOption, sym, refl, ap, add-zero, arith, rules}
use Rattle.std.proofs.lemmas.Result.{err_from_is_err_and}
use Rattle.script.specs.Instructions.{said, written}
use Rattle.script.specs.Reading.{refused, told, taken}
use Rattle.script.specs.declared.command.Command.{Command}
use Rattle.script.proofs.Steps.{Step, step}
use Rattle.script.proofs.reader.Reader.next_command.Goals as goal
use Rattle.script.proofs.reader.Reader.next_command.Goals.{After-map_or}

pub returns-in_err-next : goal.returns-in_err-next
returns-in_err-next c =
    let p = err_from_is_err_and c.from_residual.result c.from_residual.ensures.1 in
    let h = c.in_err-next.ensures in
    let r = c.args.self.now in
    let s = step r.script.now r.place (refused c.in_err-next.field-0.0) h.command h.bytes in
    let stays = sym (add-zero r.place) in
    rw (p.1, p.2) (record { command = s.command; place = stays; script = refl; part = s.part _ _ stays refl; exact = s.exact })

-- the step that an answer other than a refusal makes
stepped : (c : After-map_or) → Step c.args.self.now.script.now c.args.self.now.place (told (Ok c.in_ok-next.next))
stepped c =
    let h = c.in_ok-next.ensures in
    step c.args.self.now.script.now c.args.self.now.place (told (Ok c.in_ok-next.next)) h.command h.bytes

-- how many bytes an answer takes
size-taken : (next : Option Command) (n : ℕ) → MatchOption next (n ≡ 0) (λ command. n ≡ length (written (said command))) → n ≡ length (taken (told (Ok next)))
size-taken None n h = h
size-taken (Some command) n h = h

-- the command's bytes are all there
within : (c : After-map_or) → c.args.self.now.place + c.map_or.result ≤ length c.args.self.now.script.now
within c =
    let size = size-taken c.in_ok-next.next c.map_or.result c.map_or.ensures in
    let w = (stepped c).within c.args.self.now.inside in omega arith

pub overflow_add-self : goal.overflow_add-self
overflow_add-self c = let w = within c in search rules

pub invariant_of-self : goal.invariant_of-self
invariant_of-self c = record { inside = within c }

pub returns : goal.returns
returns c =
    let s = stepped (goal.at.returns c).After-map_or in
    let on = ap (λ n. c.args.self.now.place + n) (size-taken c.in_ok-next.next c.map_or.result c.map_or.ensures) in
    record { command = s.command; place = on; script = refl; part = s.part _ _ on refl; exact = s.exact }
