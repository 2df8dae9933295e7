use Rattle.std.proofs.Common.{inl, inr, arith}
use Rattle.std.proofs.lemmas.Bool.{cases_eq}
use Rattle.std.proofs.lemmas.List.{get_or-set_same, get_or-set_other}
use Rattle.interval.proofs.interval.index.Index.note.Goals as goal

pub invariant_of-self-clause-short : goal.invariant_of-self-clause-short
invariant_of-self-clause-short c k =
    let s = c.args.self.now in
    elim (cases_eq k c.args.mark.number) [
      | inl e ↦ rw (e, get_or-set_same s.zeros c.args.mark.number c.args.fill.zeros 0 (omega (arith, s.long.1, c.args.mark.within))) c.args.fill.short
      | inr ne ↦ rw (get_or-set_other s.zeros c.args.mark.number k c.args.fill.zeros 0 ne) (s.short k)
    ]
