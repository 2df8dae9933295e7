use Rattle.std.proofs.Common.{sym}
use Rattle.packed.specs.PackedLaws.{packed_tracks}
use Rattle.packed.proofs.packed.store.PackedStoreReading.tracks.Goals as goal

pub returns : goal.returns
returns c = sym (packed_tracks c.args.self.now)
