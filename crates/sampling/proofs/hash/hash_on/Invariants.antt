use Rattle.std.proofs.Common.{◌≡◌, fold, take}
use Rattle.sampling.specs.Fnv.{next_hash}
use Rattle.sampling.proofs.hash.hash_on.Given as goal

abbrev pub invariant-loop-byte : goal.invariant-loop-byte
invariant-loop-byte l = l.hash ≡ fold next_hash l.before (take l.byte-index l.bytes)
