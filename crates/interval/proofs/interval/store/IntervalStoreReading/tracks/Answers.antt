use Rattle.std.proofs.Common.{sym}
use Rattle.interval.specs.IntervalLaws.{store_length}
use Rattle.interval.proofs.interval.store.IntervalStoreReading.tracks.Goals as goal

pub returns : goal.returns
returns c = sym (store_length c.args.self.now)
