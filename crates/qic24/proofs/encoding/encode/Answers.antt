use Rattle.std.proofs.Common.{◌≡◌, ℕ, List, ◌++◌, length, drop, sym, ap, ◌∙◌, subst, arith}
use Rattle.std.proofs.lemmas.List.{append_assoc, length-append}
use Rattle.qic24.specs.Copy.{copy, body, ones, marker, held, preamble_ones}
use Rattle.qic24.specs.Pens.{Writes}
use Rattle.qic24.proofs.Binary.{length-ones, few_ones, length_body}
use Rattle.qic24.proofs.Pens.{writes-more, room-after}
use Rattle.qic24.proofs.Pens.{from-front}
use Rattle.qic24.proofs.Promises.{same_cells-same_item, mark-is_no_block}
use Rattle.qic24.proofs.encoding.encode.Goals as goal

pub cells-requires : goal.cells-requires
cells-requires c =
    let p = c.new-pen.result in
    let n = c.ones.result in
    let l : length p.out.now ≡ 20195 = ap (λ (z : List ℕ). length z) c.new-pen.ensures.cells ∙ c.told-out in
    room-after p c.ones-2.new.self (ones n) 10 c.ones-2.ensures (omega (arith, c.new-pen.ensures.place, length-ones n, few_ones c.args.preamble, c.ones.ensures))

pub body-requires : goal.body-requires
body-requires c =
    let p = c.new-pen.result in
    let n = c.ones.result in
    let l : length p.out.now ≡ 20195 = ap (λ (z : List ℕ). length z) c.new-pen.ensures.cells ∙ c.told-out in
    let few = few_ones c.args.preamble in
    let ln = length-ones n in
    let ex = c.ones.ensures in
    let z = c.new-pen.ensures.place in
    room-after p c.cells.new.self (ones n ++ marker) 5180 (writes-more p c.ones-2.new.self c.cells.new.self (ones n) marker (omega arith) c.ones-2.ensures c.cells.ensures) (omega (arith, length-append (ones n) marker))

pub ones-requires-3 : goal.ones-requires-3
ones-requires-3 c =
    let p = c.new-pen.result in
    let n = c.ones.result in
    let b = body c.args.track (held c.args.item.now) in
    let l : length p.out.now ≡ 20195 = ap (λ (z : List ℕ). length z) c.new-pen.ensures.cells ∙ c.told-out in
    let few = few_ones c.args.preamble in
    let ln = length-ones n in
    let ex = c.ones.ensures in
    let z = c.new-pen.ensures.place in
    let lm = length-append (ones n) marker in
    let lb = length_body c.args.track (held c.args.item.now) c.args.item.now.whole in
    room-after p c.body.new.self ((ones n ++ marker) ++ b) 5
    (writes-more p c.cells.new.self c.body.new.self (ones n ++ marker) b (omega arith) (writes-more p c.ones-2.new.self c.cells.new.self (ones n) marker (omega arith) c.ones-2.ensures c.cells.ensures) c.body.ensures)
    (omega (arith, length-append (ones n ++ marker) b))

pub returns : goal.returns
unfolding copy
returns c =
    let o = c.args.out.now in
    let p = c.new-pen.result in
    let n = preamble_ones c.args.preamble in
    let b = body c.args.track (held c.args.item.now) in
    let l : length p.out.now ≡ 20195 = ap (λ (z : List ℕ). length z) c.new-pen.ensures.cells ∙ c.told-out in
    let few = few_ones c.args.preamble in
    let ln = length-ones n in
    let z = c.new-pen.ensures.place in
    let lm = length-append (ones n) marker in
    let lb = length_body c.args.track (held c.args.item.now) c.args.item.now.whole in
    let lmb = length-append (ones n ++ marker) b in
    let w1 = subst (λ k. Writes p c.ones-2.new.self (ones k)) c.ones.ensures c.ones-2.ensures in
    let w2 = writes-more p c.ones-2.new.self c.cells.new.self (ones n) marker (omega arith) w1 c.cells.ensures in
    let w3 = writes-more p c.cells.new.self c.body.new.self (ones n ++ marker) b (omega arith) w2 c.body.ensures in
    let w4 = writes-more p c.body.new.self c.ones-3.new.self ((ones n ++ marker) ++ b) (ones 5) (omega arith) w3 c.ones-3.ensures in
    let e : ((ones n ++ marker) ++ b) ++ ones 5 ≡ ones n ++ (marker ++ (b ++ ones 5)) = append_assoc (ones n ++ marker) b (ones 5) ∙ append_assoc (ones n) marker (b ++ ones 5) in
    let f = from-front p c.ones-3.new.self o (ones n ++ (marker ++ (b ++ ones 5))) z c.new-pen.ensures.cells (subst (Writes p c.ones-3.new.self) e w4) in
    let l5 = length-append ((ones n ++ marker) ++ b) (ones 5) in
    record {
      distinct = same_cells-same_item;
      kinds = mark-is_no_block;
      bound = omega (arith, f.0, ap (λ (z : List ℕ). length z) e, length-ones 5);
      size = f.0;
      buffer = f.1 ∙ ap (λ k. (ones n ++ (marker ++ (b ++ ones 5))) ++ drop k o) (sym f.0);
    }
