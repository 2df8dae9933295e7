-- The format's promises, from what stands below.
use Rattle.std.proofs.Common.{◌≡◌, ℕ, zero, suc, ◌<◌, ◌≤◌, ◌++◌, take, replicate, Ok, Result, sym, refl, ap, ◌∙◌, arith, lit<}
use Rattle.std.specs.List.{AllByRecursion}
use Rattle.std.proofs.lemmas.List.{take_at, take_all, length-replicate}
use Rattle.qic24.specs.Copy.{Numbered, Proper, body, mark_counts}
use Rattle.qic24.specs.Laws.{ReadsExactly, ReadsBack, SameCellsSameItem, MarkIsNoBlock}
use Rattle.qic24.specs.declared.fault.CopyFault.{CopyFault}
use Rattle.qic24.specs.declared.item.Content.TheVariants.{Block, Mark}
use Rattle.qic24.proofs.Exactly as exactly
use Rattle.qic24.proofs.Only.{reads_only}

pub reads_exactly : ReadsExactly
reads_exactly t c i h b = (reads_only t c i h b, λ e. exactly.reads_back t i h e.0 c e.1)

pub reads_back : ReadsBack
reads_back t i rest h p = exactly.reads_back t i h p (body t i ++ rest) (take_at (body t i) rest 5180 (exactly.length-body t i h p))

ok_same : (i j : Numbered) → ◌≡◌ {A = Result Numbered CopyFault} (Ok i) (Ok j) → i ≡ j
ok_same i j e = cc

pub same_cells-same_item : SameCellsSameItem
same_cells-same_item t i j h p q e =
    ok_same i j (sym (exactly.reads_back t i h p (body t i) (take_self t i h p)) ∙ exactly.reads_back t j h q (body t i) (take_self t i h p ∙ e))
  where
    take_self : (t : ℕ) (i : Numbered) → t < 256 → Proper i → take 5180 (body t i) ≡ body t i
    take_self t i h p = take_all 5180 (body t i) (omega (arith, exactly.length-body t i h p))

all_FF : (n : ℕ) → AllByRecursion (λ b. b < 256) (replicate n 0xFF)
all_FF zero = tt
all_FF (suc n) = (lit< tt, all_FF n)

proper_FF : (n : ℕ) → 1 ≤ n → n ≤ 1048575 → Proper (record { number = n; content = Block mark_counts })
unfolding mark_counts
proper_FF n h k = record { content = (length-replicate {A = ℕ} 512 0xFF, all_FF 512); least = h; most = k }

pub mark-is_no_block : MarkIsNoBlock
mark-is_no_block t n h k l = (
  refl,
  λ e. let s = same_cells-same_item t (record { number = n; content = Mark }) (record { number = n; content = Block mark_counts }) h (record { content = tt; least = k; most = l }) (proper_FF n k l) e in
      let c = ap (λ (i : Numbered). i.content) s in let z : ◌≡◌ {A = ℕ} 0 1 = cc in omega arith,
)
