use Rattle.std.proofs.Common.{◌≡◌, ℕ, ◌+◌, ◌/◌, ◌<◌, ◌≤◌, true, false, cond, eqb, List, [], ◌∷◌, ◌++◌, map, length, get_or, take, Some, sym, ap, ◌∙◌, subst, arith, rules}
use Rattle.std.proofs.lemmas.List.{length-set, take_more, take_more_set, map_push, take_all, at_drop_all}
use Rattle.std.proofs.lemmas.Result.{err_from_is_err_and}
use Rattle.std.proofs.lemmas.Bool.{cond_both}
use mir.Val.{bool_byte}
use Rattle.std.specs.Simd.{first_chunks}
use Rattle.qic24.specs.Symbols.{symbol_of, symbol_byte, symbol_is_mark}
use Rattle.qic24.specs.Cells.{cell, number_of}
use Rattle.qic24.specs.Decode.{groups, entry, first_fault, fault_at, no_code_at, byte_of, marks_in}
use Rattle.qic24.proofs.Groups.{length-groups, chunk_group, symbol-byte, symbol-is_mark, ok_code, err_code, fault_step, fault_here, marks-more, bool_byte-le}
use Rattle.qic24.proofs.decoding.read_groups.Goals as goal

-- the group that the code has at hand is the group of the definition
here : (cs : List ℕ) (xs : List (List ℕ)) (i : ℕ) → i < 518 → length cs ≡ 5180 → xs ≡ first_chunks 10 (length cs / 10) cs → number_of (map cell (get_or xs i [])) ≡ get_or (groups 518 (map cell cs)) i 0
here cs xs i h l e =
    let n : length cs / 10 ≡ 518 = ap (λ m. m / 10) l in
    ap (λ (z : List (List ℕ)). number_of (map cell (get_or z i []))) (e ∙ ap (λ m. first_chunks 10 m cs) n) ∙ chunk_group 518 i cs h

pub returns-in_err-symbol : goal.returns-in_err-symbol
returns-in_err-symbol c =
    let i = c.loop-index.index in
    let gs = groups 518 (map cell c.args.body.now) in
    let x = number_of (map cell (get_or c.as_chunks.result.0.now i [])) in
    let e = err_code (no_code_at i (entry x)) (fault_at i x) c.in_err-symbol.field-0.0 (symbol_of (entry x)) c.in_err-symbol.ensures in
    let t = c.loop-index-test.true in
    let n = c.as_chunks.ensures.front_len in
    let b = c.told-body in
    let g = here c.args.body.now c.as_chunks.result.0.now i (omega arith) b c.as_chunks.ensures.front in
    let p = err_from_is_err_and c.from_residual.result c.from_residual.ensures.1 in
    let l = length-groups 518 (map cell c.args.body.now) in
    let b : no_code_at i (entry (get_or gs i 0)) ≡ true = subst (λ n. no_code_at i (entry n) ≡ true) g e.0 in
    rw (p.1, p.2) (sym c.loop-index.invariant.1 ∙ fault_here gs i (omega arith) b ∙ ap (λ n. Some (fault_at i n)) (sym g) ∙ ap Some (sym e.1))

pub overflow_add-marks : goal.overflow_add-marks
overflow_add-marks c =
    let t = c.loop-index-test.true in
    let n = c.as_chunks.ensures.front_len in
    let f = c.told-body in
    let m = bool_byte-le c.is_mark.result in
    let s : c.loop-index.marks + c.from-marks.result < 65536 = omega (arith, c.from-marks.ensures, c.loop-index.invariant.4) in search rules

pub loop-index-preserved : goal.loop-index-preserved
loop-index-preserved c =
    let i = c.loop-index.index in
    let gs = groups 518 (map cell c.args.body.now) in
    let x = number_of (map cell (get_or c.as_chunks.result.0.now i [])) in
    let e = ok_code (no_code_at i (entry x)) (fault_at i x) c.in_ok-symbol.symbol (symbol_of (entry x)) c.in_ok-symbol.ensures in
    let t = c.loop-index-test.true in
    let n = c.as_chunks.ensures.front_len in
    let f = c.told-body in
    let g = here c.args.body.now c.as_chunks.result.0.now i (omega arith) f c.as_chunks.ensures.front in
    let l = length-groups 518 (map cell c.args.body.now) in
    let b : no_code_at i (entry (get_or gs i 0)) ≡ false = subst (λ n. no_code_at i (entry n) ≡ false) g e.0 in
    let h : i < length gs = omega arith in
    let s : c.in_ok-symbol.symbol ≡ symbol_of (entry (get_or gs i 0)) = e.1 ∙ ap (λ n. symbol_of (entry n)) g in
    let by : c.byte.result ≡ byte_of (get_or gs i 0) = c.byte.ensures ∙ ap symbol_byte s ∙ symbol-byte (entry (get_or gs i 0)) in
    let len = c.loop-index.invariant.0 in
    let t = take_more gs i 0 h in
    let m : c.from-marks.result ≡ cond (eqb (entry (get_or gs i 0)) 256) 1 0 = c.from-marks.ensures ∙ ap bool_byte (c.is_mark.ensures ∙ ap symbol_is_mark s) ∙ symbol-is_mark (entry (get_or gs i 0)) in
    let mm = ap marks_in t ∙ marks-more (take i gs) (get_or gs i 0) in
    let few : cond (eqb (entry (get_or gs i 0)) 256) 1 0 ≤ 1 = cond_both (eqb (entry (get_or gs i 0)) 256) 1 0 (λ n. n ≤ 1) (λ _. omega arith) (λ _. omega arith) in
    let inv3 = c.loop-index.invariant.3 in
    let inv4 = c.loop-index.invariant.4 in (
      length-set c.loop-index.bytes i c.byte.result ∙ len,
      fault_step gs i h b ∙ c.loop-index.invariant.1,
      take_more_set c.loop-index.bytes i c.byte.result (omega arith) ∙ ap (λ (z : List ℕ). z ++ c.byte.result ∷ []) c.loop-index.invariant.2 ∙ ap (λ n. map byte_of (take i gs) ++ n ∷ []) by ∙
          sym (ap (map byte_of) t ∙ map_push byte_of (take i gs) (get_or gs i 0)),
      omega arith,
      omega arith,
    )

pub returns : goal.returns
returns c =
    let gs = groups 518 (map cell c.args.body.now) in
    let i = c.loop-index.index in
    let f = c.told-body in
    let t = c.loop-index-test.false in
    let m = c.as_chunks.ensures.front_len in
    let q = c.loop-index.auto.index-end in
    let n : i ≡ 518 = omega arith in
    let l = length-groups 518 (map cell c.args.body.now) in
    let all : take i gs ≡ gs = take_all i gs (omega arith) in
    record {
      codes = sym c.loop-index.invariant.1 ∙ at_drop_all (first_fault i) gs i (omega arith);
      bytes = sym (take_all i c.loop-index.bytes (omega (arith, c.loop-index.invariant.0))) ∙ c.loop-index.invariant.2 ∙ ap (map byte_of) all;
      marks = c.loop-index.invariant.3 ∙ ap marks_in all;
    }
