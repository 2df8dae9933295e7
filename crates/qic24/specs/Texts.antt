-- What a fault is printed as.
use Rattle.std.specs.Prelude.{ℕ, List, ◌++◌, codes}
use Rattle.std.specs.Fmt.{decimal}
use Rattle.qic24.specs.declared.fault.CopyFault.{CopyFault}
use Rattle.qic24.specs.declared.fault.CopyFault.TheVariants.{TrackEnds, Group, Mixed, Check, OtherTrack, Control, NumberZero}
use Rattle.qic24.specs.declared.fault.GroupFault.{GroupFault}

-- which group, and its cells
abbrev pub group_text : GroupFault → List ℕ
group_text f = codes "group " ++ (decimal f.index ++ (codes " " ++ decimal f.cells))

-- the cause, with what it names
abbrev pub fault_text : CopyFault → List ℕ
fault_text TrackEnds = codes "track ends"
fault_text (Group f) = group_text f
fault_text Mixed = codes "mixed"
fault_text Check = codes "check"
fault_text (OtherTrack t) = codes "other track " ++ decimal t
fault_text (Control n) = codes "control " ++ decimal n
fault_text NumberZero = codes "number zero"
