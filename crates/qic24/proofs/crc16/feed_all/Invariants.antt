use Rattle.std.proofs.Common.{◌≡◌, drop}
use Rattle.qic24.specs.Crc.{crc_from}
use Rattle.qic24.proofs.crc16.feed_all.Given as goal

abbrev pub invariant-loop-byte : goal.invariant-loop-byte
invariant-loop-byte l = crc_from l.after (drop l.byte-index l.bytes) ≡ crc_from l.register l.bytes
