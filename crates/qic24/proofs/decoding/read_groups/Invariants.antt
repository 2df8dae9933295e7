use Rattle.std.proofs.Common.{◌≡◌, ◌≤◌, map, length, take, drop}
use Rattle.qic24.specs.Cells.{cell}
use Rattle.qic24.specs.Decode.{groups, first_fault, byte_of, marks_in}
use Rattle.qic24.proofs.decoding.read_groups.Given as goal

abbrev pub invariant-loop-index : goal.invariant-loop-index
invariant-loop-index l =
    (length l.bytes ≡ 518) ×
    (first_fault l.index (drop l.index (groups 518 (map cell l.body))) ≡ first_fault 0 (groups 518 (map cell l.body))) ×
    (take l.index l.bytes ≡ map byte_of (take l.index (groups 518 (map cell l.body)))) ×
    (l.marks ≡ marks_in (take l.index (groups 518 (map cell l.body)))) × (l.marks ≤ l.index)
