use Rattle.std.proofs.Common.{◌≡◌, ◌+◌, ◌*◌, ◌<◌, ◌^◌, subst, length, map, get_or, take, sym, ap, ◌∙◌, arith, rules}
use Rattle.std.proofs.lemmas.List.{map_more, take_all, length-map}
use Rattle.qic24.specs.Cells.{cell, number_of}
use Rattle.qic24.proofs.Binary.{part_small, number_of-push, number_of-below, cells_binary, cell-binary}
use Rattle.qic24.proofs.decoding.group.Goals as goal

pub overflow_mul-number : goal.overflow_mul-number
overflow_mul-number c =
    let h = part_small 10 c.loop-cell.cell-index c.args.cells.now (omega arith) in
    let e = c.loop-cell.invariant in
    let k : c.loop-cell.number < 1024 = omega arith in search rules

pub overflow_add-number : goal.overflow_add-number
overflow_add-number c =
    let h = part_small 10 c.loop-cell.cell-index c.args.cells.now (omega arith) in
    let e = c.loop-cell.invariant in
    let k : c.loop-cell.number < 1024 = omega arith in
    let b = cell-binary (get_or c.args.cells.now c.loop-cell.cell-index 0) in
    search rules

pub loop-cell-preserved : goal.loop-cell-preserved
loop-cell-preserved c =
    let cs = c.args.cells.now in
    let i = c.loop-cell.cell-index in
    let l : length cs ≡ 10 = search rules in
    ap (λ n. n * 2 + c.cell_of.result) c.loop-cell.invariant ∙ ap (λ n. number_of (map cell (take i cs)) * 2 + n) c.cell_of.ensures ∙
    sym (ap number_of (map_more cell cs i 0 (omega arith)) ∙ number_of-push (map cell (take i cs)) (cell (get_or cs i 0)))

pub returns : goal.returns
returns c =
    let cs = c.args.cells.now in
    let l : length cs ≡ 10 = search rules in
    let e = c.loop-cell.invariant ∙ ap (λ z. number_of (map cell z)) (take_all c.loop-cell.cell-index cs (omega arith)) in
    let b = number_of-below (map cell cs) (cells_binary cs) in
    record { value = e; small = omega (arith, e, subst (λ n. number_of (map cell cs) < 2 ^ n) (length-map cs cell ∙ l) b) }
