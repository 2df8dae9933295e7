use Rattle.std.proofs.Common.{◌≡◌, ℕ, length, ◌∙◌, arith}
use borrow.Fn.Kinds.{GoodsP}
use Rattle.qic24.specs.Copy.{data_cells}
use Rattle.qic24.specs.declared.item.Content.{Content}
use Rattle.qic24.specs.declared.item.Content.TheVariants.{Block, Mark}
use Rattle.qic24.proofs.Binary.{length-coded, length-mark_data}
use Rattle.qic24.proofs.item.Item.new.Lts as lts
use Rattle.qic24.proofs.item.Item.new.Reads as reads
use Rattle.qic24.proofs.item.Item.new.Goals as goal

whole : (n : ℕ) (x : Content) → GoodsP {n = 0} (tt {0}) lts.ps (lts.dens reads.Pre reads.Post (record { number = n; content = x })) → length (data_cells x) ≡ 5120
whole n (Block bs) w =
    let l : length bs ≡ 512 = assumption w in
    length-coded bs ∙ omega arith
whole n Mark w = length-mark_data

pub invariant_of-result-clause-whole : goal.invariant_of-result-clause-whole
invariant_of-result-clause-whole c = whole c.args.number c.args.content c.well_formed
