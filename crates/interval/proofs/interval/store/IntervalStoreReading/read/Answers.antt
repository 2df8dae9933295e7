use Rattle.std.proofs.Common.{◌≡◌, ℕ, ◌+◌, ◌*◌, ◌≤◌, List, length, take, drop, sym, ap, subst, ◌∙◌, arith}
use Rattle.std.specs.List.{flat_map}
use Rattle.std.proofs.lemmas.List.{take-take}
use Rattle.interval.specs.Intervals.{gap, interval_cells, state_of}
use Rattle.interval.specs.declared.interval.track.Fill.{Fill}
use Rattle.interval.specs.Gaps.{Copied}
use Rattle.interval.proofs.GapReads.{copied_from}
use Rattle.interval.proofs.IntervalTapes.{copied_cells, length_stored, store_track}
use Rattle.std.proofs.lemmas.Grind.{common_steps}
use Rattle.interval.proofs.interval.store.IntervalStoreReading.read.Goals as goal

pub start-from-requires-clause-there : goal.start-from-requires-clause-there
start-from-requires-clause-there c = (length_stored c.args.self.now c.args.at c.in_ok-length.field-0 c.in_ok-length.ensures).0

pub start-from-requires-clause-inside : goal.start-from-requires-clause-inside
start-from-requires-clause-inside c =
    let fits : c.args.place + length c.args.out.now ≤ c.in_ok-length.field-0 = grind (arith, common_steps) in
    omega (arith, (length_stored c.args.self.now c.args.at c.in_ok-length.field-0 c.in_ok-length.ensures).1)

pub bytes-requires : goal.bytes-requires
bytes-requires c = (length_stored c.args.self.now c.args.at c.in_ok-length.field-0 c.in_ok-length.ensures).0

pub copy_cells-requires-clause-within : goal.copy_cells-requires-clause-within
copy_cells-requires-clause-within c =
    let s = c.args.self.now in
    let told = length_stored s c.args.at c.in_ok-length.field-0 c.in_ok-length.ensures in
    let fits : c.args.place + length c.args.out.now ≤ c.in_ok-length.field-0 = grind (arith, common_steps) in
    omega (arith, told.1, (s.rule c.args.at).0, s.sizes.small)

pub returns-clause-buffer : goal.returns-clause-buffer
returns-clause-buffer c =
    let s = c.args.self.now in
    let t = c.args.at in
    let told = length_stored s t c.in_ok-length.field-0 c.in_ok-length.ensures in
    let fits : c.args.place + length c.args.out.now ≤ c.in_ok-length.field-0 = grind (arith, common_steps) in
    let f : Fill = (state_of s.states t).fill in
    let b : List ℕ = drop (t * s.sizes.capacity) s.memory.items in
    let from = c.start-from.result.0 in
    let cells = c.start-from.result.1 in
    let used = c.bytes.ensures.bytes in
    let first : cells ≡ length (flat_map gap (take from c.bytes.result.now)) =
    c.start-from.ensures.begins ∙ sym (ap (λ (x : List ℕ). length (flat_map gap (take from x))) used ∙ ap (λ (x : List ℕ). length (flat_map gap x)) (take-take from f.used b c.start-from.ensures.used)) in
    let copied : Copied c.args.place (take f.used b) c.args.out.now c.copy_cells.new.out =
    subst (λ (x : List ℕ). Copied c.args.place x c.args.out.now c.copy_cells.new.out) used
    (copied_from from cells c.args.place c.bytes.result.now c.args.out.now c.copy_cells.new.out first c.start-from.ensures.before c.copy_cells.ensures) in
    let long : length c.copy_cells.new.out ≡ length c.args.out.now = c.copy_cells.auto.out in
    copied_cells b f c.args.place c.copy_cells.new.out (omega (arith, told.1, (s.rule t).2)) (λ k h. copied k (omega arith))
    ∙ ap (λ (n : ℕ). take n (drop c.args.place (interval_cells b f))) long
    ∙ ap (λ (x : List ℕ). take (length c.args.out.now) (drop c.args.place x)) (sym (store_track s t told.0))
