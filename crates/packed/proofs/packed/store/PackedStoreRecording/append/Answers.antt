use Rattle.std.proofs.Common.{◌+◌, ◌-◌, ◌≤◌, map, length, drop, refl, ◌∙◌, arith, length-drop}
use Rattle.std.proofs.lemmas.List.{length-take-le}
use Rattle.tape.specs.Tape.{cell, run}
use Rattle.std.proofs.lemmas.Grind.{common_steps}
use Rattle.tape.proofs.Tapes.{unspoiled_track}
use Rattle.packed.specs.PackedStores.{packed_store_tape}
use Rattle.packed.proofs.PackedTapes.{length_stored, bytes_inside, stored_append}
use Rattle.packed.proofs.packed.store.PackedStoreRecording.append.Goals as goal

pub slice_bounds-put-end : goal.slice_bounds-put-end
slice_bounds-put-end c =
    let told = length_stored c.args.self.now c.args.at c.in_ok-length.length c.in_ok-length.ensures in
    omega (arith, bytes_inside c.args.self.now c.args.at told.0)

pub bounds-self-from : goal.bounds-self-from
bounds-self-from c =
    let s = c.args.self.now in
    omega (arith, (length_stored s c.args.at c.in_ok-length.length c.in_ok-length.ensures).0, s.sizes.few)

pub returns-clause-tape : goal.returns-clause-tape
returns-clause-tape c =
    let s = c.args.self.now in
    let told = length_stored s c.args.at c.in_ok-length.length c.in_ok-length.ensures in
    let fits : c.in_ok-length.length + length c.args.sent.now ≤ s.sizes.capacity = grind (arith, common_steps) in
    let i = c.bytes-bytes.result.start in
    let n = c.bytes-bytes.result.end - i in
    let inside = bytes_inside s c.args.at told.0 in
    let long = length-take-le n (drop i c.deref_mut.result.now) (omega (arith, length-drop i c.deref_mut.result.now)) in (
      stored_append s c.args.at i n c.from.result c.in_ok-length.length (c.in_ok-length.length + length c.args.sent.now) c.args.sent.now c.deref_mut.result.now c.put.new.track
          told.0 told.1 c.from.ensures refl fits c.bytes-bytes.ensures.start (omega arith) c.deref_mut.ensures.value c.deref_mut.ensures.len (c.put.auto.track ∙ long) c.put.ensures,
      refl,
    )

pub returns-clause-unspoiled : goal.returns-clause-unspoiled
returns-clause-unspoiled c = unspoiled_track (run c.args.at (map cell c.args.sent.now)) (packed_store_tape c.args.self.now) _ (returns-clause-tape c).0
