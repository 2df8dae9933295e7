use Rattle.std.proofs.Common.{◌≡◌, ◌+◌, true, false, sym, arith}
use Rattle.std.proofs.lemmas.Bool.{cond-true, cond-false}
use Rattle.tape.specs.Flaws.{under, flaw_first, cell_number}
use Rattle.tape.specs.FlawTables.{table_flaws}
use Rattle.tape.specs.Stretches.{Sought}
use Rattle.tape.specs.Covering.{sought_under, none_under}
use Rattle.tape.proofs.Masking.{masked_more}
use Rattle.tape.proofs.table.FlawTable.mask_into.Goals as goal

pub loop-i-preserved : goal.loop-i-preserved
loop-i-preserved c =
    let t = c.args.self.now in
    let r = c.args.run.now in
    let i = c.loop-i.i in
    let at : c.first-from.result + i ≡ cell_number r.on (r.place + i) = omega arith in
    let found : Sought flaw_first (λ f. f.extent) (table_flaws t) (cell_number r.on (r.place + i)) c.in-Some.field-0 = rw (← c.flaws.ensures, ← at) c.in-Some.ensures in
    let hit : under (table_flaws t) r.on (r.place + i) ≡ true = sought_under (table_flaws t) t.apart t.whole r.on (r.place + i) (omega arith) c.in-Some.field-0 found in
    masked_more (table_flaws t) r.on r.place r.sent.now c.loop-i.out i 0 (omega arith) (omega arith) c.loop-i.invariant (sym (cond-true _ _ _ hit))

pub loop-i-preserved-in_default : goal.loop-i-preserved-in_default
loop-i-preserved-in_default c =
    let t = c.args.self.now in
    let r = c.args.run.now in
    let i = c.loop-i.i in
    let at : c.first-from.result + i ≡ cell_number r.on (r.place + i) = omega arith in
    let miss : under (table_flaws t) r.on (r.place + i) ≡ false = none_under (table_flaws t) t.apart t.whole r.on (r.place + i) (omega arith) (λ k s. c.in_default.ensures k (rw (c.flaws.ensures, at) s)) in
    masked_more (table_flaws t) r.on r.place r.sent.now c.loop-i.out i _ (omega arith) (omega arith) c.loop-i.invariant (sym (cond-false _ _ _ miss))
