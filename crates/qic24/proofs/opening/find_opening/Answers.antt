use Rattle.std.proofs.Common.{◌≡◌, ℕ, ◌+◌, ◌-◌, ◌*◌, ◌%◌, ◌<◌, List, map, length, get_or, take, drop, sym, ap, ◌∙◌, subst, ⊎_elim, arith}
use Rattle.std.specs.List.{slice_range}
use lib.Bits.{bit_and, and_mask}
use Rattle.std.proofs.lemmas.List.{length-map, get_or-map, get_or-take, get_or-drop}
use Rattle.std.proofs.lemmas.Bool.{cases_eq}
use Rattle.qic24.specs.Cells.{cell, number_of}
use Rattle.qic24.specs.Opening.{FirstOpening, Opens}
use Rattle.qic24.proofs.Binary.{cells_binary}
use Rattle.qic24.proofs.Openings.{shows, shown, seen_more, opens_within}
use Rattle.qic24.proofs.Runs.{no_nine_ones, no_opening-inside}
use Rattle.qic24.proofs.opening.find_opening.Goals as goal

-- the register after one cell more
next : (bs ms : List ℕ) (s k v x : ℕ) → ms ≡ slice_range bs s (length bs) → length ms + s ≡ length bs → k < length ms → v ≡ number_of (take k (drop s (map cell bs))) % 16384 → x ≡ cell (get_or ms k 0) →
    bit_and v 8191 * 2 + x ≡ number_of (take (s + k + 1 - s) (drop s (map cell bs))) % 16384
next bs ms s k v x part n h e q =
    let m : bit_and v 8191 ≡ v % 8192 = and_mask v 13 in
    let at : get_or ms k 0 ≡ get_or bs (s + k) 0 = ap (λ (z : List ℕ). get_or z k 0) part ∙ get_or-take (length bs - s) (drop s bs) k 0 (omega arith) ∙ get_or-drop s bs k 0 in
    let g : get_or (map cell bs) (s + k) 0 ≡ x = get_or-map cell bs (s + k) 0 0 (omega arith) ∙ sym (q ∙ ap cell at) in
    let w : s + k - s ≡ k = omega arith in
    let l = seen_more (map cell bs) s (s + k) v (cells_binary bs) (omega arith) (rw length-map (omega arith)) (rw w e) in
    omega arith

pub returns-in_err-near-clause-first : goal.returns-in_err-near-clause-first
returns-in_err-near-clause-first c =
    let s = c.saturating_sub-start.ensures in
    let l = length-map c.args.cells.now cell in
    subst (FirstOpening (map cell c.args.cells.now) c.args.from) (sym c.from_residual.ensures) (λ q f o. let w = opens_within (map cell c.args.cells.now) q o in absurd (omega (arith, c.in_err-near.ensures.lookup.0)))

pub returns-in_err-near-clause-runs : goal.returns-in_err-near-clause-runs
returns-in_err-near-clause-runs c = no_nine_ones

pub returns-in_err-near-clause-inside : goal.returns-in_err-near-clause-inside
returns-in_err-near-clause-inside c = no_opening-inside

pub returns-then-seen-eq-PATTERN : goal.returns-then-seen-eq-PATTERN
returns-then-seen-eq-PATTERN c =
    let bs = c.args.cells.now in
    let s = c.saturating_sub-start.result in
    let k = c.loop-more.more in
    let p = c.in_ok-near.ensures.lookup.0 in
    let l = length-map bs cell in
    let st = c.saturating_sub-start.ensures in
    let n = next bs c.in_ok-near.near.now s k c.loop-more.seen c.cell_of.result p.2 p.3 c.loop-more-test.true c.loop-more.invariant.0 c.cell_of.ensures in
    let o = shows (map cell bs) (cells_binary bs) s (s + k + 1) (omega arith) (omega arith) (sym n ∙ c.if-seen-eq-PATTERN.true) in
    let more = o.0 in
    record { first = (omega arith, o.1, c.loop-more.invariant.1); within = (omega arith, omega arith); runs = no_nine_ones; inside = no_opening-inside }

pub loop-more-preserved : goal.loop-more-preserved
loop-more-preserved c =
    let bs = c.args.cells.now in
    let s = c.saturating_sub-start.result in
    let k = c.loop-more.more in
    let p = c.in_ok-near.ensures.lookup.0 in
    let l = length-map bs cell in
    let st = c.saturating_sub-start.ensures in
    let w : s + k + 1 - s ≡ k + 1 = omega arith in
    let n = next bs c.in_ok-near.near.now s k c.loop-more.seen c.cell_of.result p.2 p.3 c.loop-more-test.true c.loop-more.invariant.0 c.cell_of.ensures in (
      n ∙ ap (λ i. number_of (take i (drop s (map cell bs))) % 16384) w,
      λ q f h o. ⊎_elim
          (λ (e : q ≡ s + k + 1).
          let more = o.0 in
          c.if-seen-eq-PATTERN.false (n ∙ shown (map cell bs) (cells_binary bs) s (s + k + 1) (omega arith) (omega arith) (omega arith) (subst (λ p. Opens (map cell bs) p) e o).1))
          (λ ne. c.loop-more.invariant.1 q f (grind arith) o) (cases_eq q (s + k + 1)),
    )

pub returns : goal.returns
returns c =
    let p = c.in_ok-near.ensures.lookup.0 in
    record { within = tt; runs = no_nine_ones; inside = no_opening-inside; first = λ q f o. let w = opens_within (map cell c.args.cells.now) q o in let l = length-map c.args.cells.now cell in c.loop-more.invariant.1 q f (omega (arith, p.3)) o }
