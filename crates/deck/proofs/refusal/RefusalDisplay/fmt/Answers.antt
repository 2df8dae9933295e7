use Rattle.std.proofs.Common.{◌≡◌, ◌++◌, ◌∷◌, sym, refl, append-nil}
use Rattle.std.proofs.Output.{has_written_of_eq}
use Rattle.std.specs.Fmt.{decimal}
use Rattle.deck.specs.Refusals.{refusal_text}
use Rattle.deck.proofs.Printed.{none-named}
use Rattle.deck.proofs.refusal.RefusalDisplay.fmt.Goals as goal

pub returns-in-Unwritable-clause-writes : goal.returns-in-Unwritable-clause-writes
returns-in-Unwritable-clause-writes g c = λ p ok.
    let text : decimal c.number-number.result ++ 32 ∷ decimal c.in-Unwritable.item ≡ refusal_text c.args.self.now = rw (c.number-number.ensures, c.in-Unwritable.is) refl in
    has_written_of_eq _ _ _ _ _ text (c.write.ensures.writes p ok)

pub returns-in-Unlocated-clause-writes : goal.returns-in-Unlocated-clause-writes
returns-in-Unlocated-clause-writes g c = λ p ok.
    let text : decimal c.number-number.result ++ 32 ∷ decimal c.in-Unlocated.sought.expected ≡ refusal_text c.args.self.now = rw (c.number-number.ensures, c.in-Unlocated.is) refl in
    has_written_of_eq _ _ _ _ _ text (c.write-in-Unlocated.ensures.writes p ok)

pub returns-in_default : goal.returns-in_default
returns-in_default g c =
    let text : decimal c.number-number.result ≡ refusal_text c.args.self.now = rw c.number-number.ensures (rw (none-named c.args.self.now c.in_default.not-Unwritable c.in_default.not-Unlocated) (sym (append-nil _))) in
    record { writes = λ p ok. has_written_of_eq _ _ _ _ _ text (c.write-in_default.ensures.writes p ok); styled = tt }
