use Rattle.std.proofs.Common.{◌+◌, ◌≤◌, length, arith}
use Rattle.interval.proofs.IntervalTapes.{length_stored}
use Rattle.std.proofs.lemmas.Grind.{common_steps}
use Rattle.interval.proofs.interval.store.IntervalStoreRecording.append.Goals as goal

pub put-requires : goal.put-requires
put-requires c =
    let told = length_stored c.args.self.now c.args.at c.in_ok-length.field-0 c.in_ok-length.ensures in
    let fits : c.in_ok-length.field-0 + length c.args.sent.now ≤ c.args.self.now.sizes.capacity = grind (arith, common_steps) in
    record { there = told.0; fits = omega (arith, told.1) }
