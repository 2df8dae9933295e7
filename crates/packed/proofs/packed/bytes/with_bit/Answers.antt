use Rattle.std.proofs.Common.{cond, sym, ap, ◌∙◌}
use Rattle.std.proofs.lemmas.Bool.{eq-eqb, ne_eqb}
use Rattle.packed.proofs.BitsOfBytes.{cleared_bit, cleared_others, set_bit, set_others}
use Rattle.packed.proofs.packed.bytes.with_bit.Goals as goal

pub returns-then-sent-eq0 : goal.returns-then-sent-eq0
returns-then-sent-eq0 c = record {
  this = cleared_bit c.args.byte c.args.j c.requires ∙ sym (ap (λ t. cond t 0 1) (eq-eqb c.args.sent 0 c.if-sent-eq0.true));
  others = λ i h n. cleared_others c.args.byte c.args.j i c.requires h n;
}

pub returns-else-sent-eq0 : goal.returns-else-sent-eq0
returns-else-sent-eq0 c = record {
  this = set_bit c.args.byte c.args.j c.requires ∙ sym (ap (λ t. cond t 0 1) (ne_eqb c.args.sent 0 c.if-sent-eq0.false));
  others = λ i h n. set_others c.args.byte c.args.j i c.requires h n;
}
