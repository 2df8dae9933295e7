use Rattle.std.proofs.Common.{◌+◌, ◌-◌, ◌≤◌, length, drop, ◌∙◌, arith, length-drop}
use Rattle.std.proofs.lemmas.List.{length-take-le}
use Rattle.packed.proofs.PackedTapes.{length_stored, bytes_inside, stored_read}
use Rattle.std.proofs.lemmas.Grind.{common_steps}
use Rattle.packed.proofs.packed.store.PackedStoreReading.read.Goals as goal

pub slice_bounds-get-end : goal.slice_bounds-get-end
slice_bounds-get-end c =
    let told = length_stored c.args.self.now c.args.at c.in_ok-length.field-0 c.in_ok-length.ensures in
    omega (arith, bytes_inside c.args.self.now c.args.at told.0)

pub get-requires : goal.get-requires
get-requires c =
    let s = c.args.self.now in
    let told = length_stored s c.args.at c.in_ok-length.field-0 c.in_ok-length.ensures in
    let inside = bytes_inside s c.args.at told.0 in
    let fits : c.args.place + length c.args.out.now ≤ c.in_ok-length.field-0 = grind (arith, common_steps) in
    let all = c.deref.result.now in
    let i = c.bytes.result.start in
    omega (arith, told.1, s.inside c.args.at, length-take-le (c.bytes.result.end - i) (drop i all) (omega (arith, length-drop i all)))

pub returns-clause-buffer : goal.returns-clause-buffer
returns-clause-buffer c =
    let s = c.args.self.now in
    let told = length_stored s c.args.at c.in_ok-length.field-0 c.in_ok-length.ensures in
    let fits : c.args.place + length c.args.out.now ≤ c.in_ok-length.field-0 = grind (arith, common_steps) in
    let i = c.bytes.result.start in
    c.get.ensures ∙ stored_read s c.args.at i (c.bytes.result.end - i) c.args.place (length c.args.out.now) c.in_ok-length.field-0 c.deref.result.now
    told.0 told.1 fits c.bytes.ensures.start (omega arith) c.deref.ensures.value
