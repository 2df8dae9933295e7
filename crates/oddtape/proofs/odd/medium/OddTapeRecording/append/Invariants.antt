use Rattle.std.proofs.Common.{◌≡◌, ◌++◌, map, take}
use Rattle.tape.specs.Tape.{cell}
use Rattle.oddtape.specs.Odd.{thinned, after}
use Rattle.oddtape.proofs.odd.medium.OddTapeRecording.append.Given as goal

abbrev pub invariant-loop-byte : goal.invariant-loop-byte
invariant-loop-byte l =
    (l.self.cells.items ≡ l.fn.self.cells.items ++ thinned l.fn.self.ones.passed (map cell (take l.byte-index l.sent)))
    × (l.self.ones.passed ≡ after l.fn.self.ones.passed (map cell (take l.byte-index l.sent)))
