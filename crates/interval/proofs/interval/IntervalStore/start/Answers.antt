use Rattle.std.proofs.Common.{◌≡◌, ℕ, ◌+◌, ◌*◌, ◌/◌, ◌<◌, ◌≤◌, List, length, get_or, take, drop, sym, ap, ◌∙◌, arith}
use Rattle.std.specs.List.{flat_map}
use Rattle.interval.specs.Intervals.{gap, state_of}
use Rattle.interval.specs.Marks.{mark_stride, mark_of}
use Rattle.interval.specs.declared.interval.IntervalStore.{IntervalStore}
use Rattle.interval.specs.declared.interval.track.Fill.{Fill}
use Rattle.interval.proofs.IntervalTapes.{length_bytes, same_counts}
use Rattle.interval.proofs.StrideSteps.{stride_some, mark-inside, behind_at, behind_near}
use Rattle.interval.proofs.interval.IntervalStore.start.Goals as goal

-- what the index tells of a place: bytes of the track, the cells that they and the zeros stand for, and how near those come to the place
record Told (s : IntervalStore) (t p : ℕ) (f : Fill) (cells : ℕ) : Type 0 where
  used : f.used ≤ (state_of s.states t).fill.used
  stand : length (flat_map gap (take f.used (drop (t * s.sizes.capacity) s.memory.items))) + f.zeros ≡ cells
  before : cells ≤ p
  near : p < cells + mark_stride s.sizes.capacity

told : (s : IntervalStore) (t p m cells : ℕ) (f : Fill) → p ≤ (state_of s.states t).cells → m ≡ mark_of t (p / mark_stride s.sizes.capacity) → cells ≡ p / mark_stride s.sizes.capacity * mark_stride s.sizes.capacity
    → f.used ≡ get_or s.index.used m 0 → f.zeros ≡ get_or s.index.zeros m 0 → Told s t p f cells
told s t p m cells f h em ec eu ez =
    let n = mark_stride s.sizes.capacity in
    let some = stride_some s.sizes.capacity in
    let low = behind_at n some p in
    let in' = mark-inside s.sizes.capacity (p / n) (omega (arith, (s.rule t).0)) in
    let iu : f.used ≡ get_or s.index.used (mark_of t (p / n)) 0 = eu ∙ ap (λ (i : ℕ). get_or s.index.used i 0) em in
    let iz : f.zeros ≡ get_or s.index.zeros (mark_of t (p / n)) 0 = ez ∙ ap (λ (i : ℕ). get_or s.index.zeros i 0) em in
    let b : List ℕ = drop (t * s.sizes.capacity) s.memory.items in
    record {
      used = omega (arith, iu, s.held t (p / n) (omega arith));
      stand = sym (length_bytes b f.used f.zeros) ∙ same_counts b _ _ _ _ iu iz ∙ s.noted t (p / n) (omega arith) ∙ sym ec;
      before = omega arith;
      near = omega (arith, behind_near n some p);
    }

here : (c : goal.After-noted-used) → Told c.args.self.now c.args.at c.args.place c.noted-used.result c.mark_behind-cells.result.1
here c = told c.args.self.now c.args.at c.args.place c.mark_behind-cells.result.0.number _ _ c.requires.inside c.mark_behind-cells.ensures.mark c.mark_behind-cells.ensures.cells c.noted-used.ensures.used c.noted-used.ensures.zeros

pub overflow_sub-result : goal.overflow_sub-result
overflow_sub-result c = let h = here c in omega (arith, h.stand)

pub returns-clause-used : goal.returns-clause-used
returns-clause-used c = (here c).used

pub returns-clause-begins : goal.returns-clause-begins
returns-clause-begins c = let h = here c in omega (arith, h.stand)

pub returns-clause-near : goal.returns-clause-near
returns-clause-near c = let h = here c in let s = c.noted-used.result.short in omega (arith, h.near, h.stand)
