use Rattle.std.proofs.Common.{◌≡◌, ℕ, ◌<◌, List, map, length, take, sym, ap, ◌∙◌, arith}
use Rattle.std.proofs.lemmas.List.{length-map, take-map}
use Rattle.std.proofs.lemmas.Result.{err_from_is_err_and}
use Rattle.std.proofs.lemmas.Option.{MatchOption-at_some}
use denote.Bor.{Bor}
use Rattle.std.specs.Array.{IsFirstChunk}
use Rattle.qic24.specs.Cells.{cell}
use Rattle.qic24.specs.Decode.{judged, groups, first_fault, marks_in, byte_of}
use Rattle.qic24.proofs.Groups.{groups_of_front}
use Rattle.qic24.proofs.Judging.{decoded_fault, decoded-codes}
use Rattle.qic24.proofs.Promises.{reads_exactly, reads_back}
use Rattle.qic24.proofs.decoding.decode.Goals as goal

-- the body's groups are those of the cells
front : (bs cs : List ℕ) → bs ≡ take 5180 cs → groups 518 (map cell bs) ≡ groups 518 (map cell cs)
front bs cs e = ap (λ (z : List ℕ). groups 518 (map cell z)) e ∙ ap (groups 518) (sym (take-map cell 5180 cs)) ∙ groups_of_front 518 (map cell cs)

pub returns-in_err-body-clause-exactly : goal.returns-in_err-body-clause-exactly
returns-in_err-body-clause-exactly c = reads_exactly

pub returns-in_err-body-clause-back : goal.returns-in_err-body-clause-back
returns-in_err-body-clause-back c = reads_back

pub returns-in_err-groups : goal.returns-in_err-groups
returns-in_err-groups c =
    let cs = c.args.cells.now in
    let a = MatchOption-at_some (length cs < 5180) (λ (b : Bor (List ℕ)). IsFirstChunk cs b.now 5180) c.in_ok-body.body c.in_ok-body.ensures.ok_part c.first_chunk.ensures.cases in
    let p = err_from_is_err_and c.from_residual-in_err-groups.result c.from_residual-in_err-groups.ensures.1 in
    let f = ap (first_fault 0) (sym (front c.in_ok-body.body.now cs a.same)) ∙ c.in_err-groups.ensures in
    record { exactly = reads_exactly; back = reads_back; answer = rw (p.1, p.2) (sym (decoded_fault c.args.track (map cell cs) c.in_err-groups.field-0.0 (omega (arith, length-map cs cell, a.enough)) f)) }

pub returns : goal.returns
returns c =
    let cs = c.args.cells.now in
    let a = MatchOption-at_some (length cs < 5180) (λ (b : Bor (List ℕ)). IsFirstChunk cs b.now 5180) c.in_ok-body.body c.in_ok-body.ensures.ok_part c.first_chunk.ensures.cases in
    let e = c.in_ok-groups.ensures in
    let f = front c.in_ok-body.body.now cs a.same in
    record {
      exactly = reads_exactly;
      back = reads_back;
      answer = c.judge.ensures ∙ ap (λ m. judged c.args.track m c.in_ok-groups.groups.bytes) (e.marks ∙ ap marks_in f) ∙ ap (judged c.args.track (marks_in (groups 518 (map cell cs)))) (e.bytes ∙ ap (map byte_of) f) ∙
          sym (decoded-codes c.args.track (map cell cs) (omega (arith, length-map cs cell, a.enough)) (ap (first_fault 0) (sym f) ∙ e.codes));
    }
