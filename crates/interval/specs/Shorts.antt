-- Too few zeros for a byte.
use Rattle.std.proofs.Common.{◌<◌, arith}
use Rattle.interval.specs.declared.interval.track.TheConstants.{ZEROS_ALONE}

pub none_short : 0 < ZEROS_ALONE
none_short = omega arith
