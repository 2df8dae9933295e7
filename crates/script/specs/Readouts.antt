-- A readout: what a reader hands out of a whole script, from the first byte on, and what ends it.
use Rattle.std.specs.Prelude.{◌≡◌, ℕ, zero, suc, List, [], ◌∷◌, length, take, drop, Some, None, Option}
use Rattle.std.specs.List.{AllByRecursion}
use Rattle.script.specs.declared.refusal.Refusal.{Refusal}
use Rattle.script.specs.declared.inspection.Inspection.{Inspection}
use Rattle.script.specs.Instructions.{Instruction, Bytes, Proper, written, script_of}
use Rattle.script.specs.Reading.{next, end, refused, read}
use Rattle.script.specs.Fronts.{RefusedAt}

-- the instructions handed out, in order, and the refusal that ended the readout, or none at the script's end
pub record Readout : Type 0 where
  pub handed : List Instruction
  pub refusal : Option Refusal

-- a readout of no instruction
abbrev pub ended : Option Refusal → Readout
ended e = record { handed = []; refusal = e }

-- a readout with one instruction more in front
abbrev pub after : Instruction → Readout → Readout
after i r = record { handed = i ∷ r.handed; refusal = r.refusal }

-- a readout of at most so many turns, each from where the last one ended
unfoldable pub read_turns : ℕ → List ℕ → Readout
read_turns zero bytes = ended None
read_turns (suc turns) bytes = elim (read bytes) [
  | next i ↦ after i (read_turns turns (drop (length (written i)) bytes))
  | end ↦ ended None
  | refused e ↦ ended (Some e)
]

-- the readout of a script: an instruction has at least a byte, so there are no more turns than bytes
unfoldable pub read_out : List ℕ → Readout
read_out script = read_turns (length script) script

-- how many bytes a readout took: the place where the reader then stands
abbrev pub reached : Readout → ℕ
reached r = length (script_of r.handed)

-- a readout in short: how many instructions, up to which place, and what ended it
abbrev pub inspected : Readout → Inspection
inspected r = record { commands = length r.handed; place = reached r; refusal = r.refusal }

-- what is left of a script where a readout ended: nothing, or the bytes at which the refusal stands
abbrev pub Ends : List ℕ → Option Refusal → Type 0
Ends bytes None = bytes ≡ []
Ends bytes (Some e) = RefusedAt bytes e

-- the instructions of a readout, written one after the other, are the script up to where it ended
pub record Joins (script : List ℕ) (r : Readout) : Type 0 where
  pub proper : AllByRecursion Proper r.handed
  pub joined : script_of r.handed ≡ take (reached r) script
  pub ends : Ends (drop (reached r) script) r.refusal

-- Any instructions that are written are read back, whole and in order, and then the script ends.
abbrev pub WrittenThenRead : Type 0
WrittenThenRead = (is : List Instruction) → AllByRecursion Proper is → read_out (script_of is) ≡ record { handed = is; refusal = None }

-- Whatever bytes are read, the instructions handed out join to the script again, up to its end or to the refusal; and those of no other readout do.
abbrev pub ReadThenWritten : Type 0
ReadThenWritten = (script : List ℕ) → Bytes script → Joins script (read_out script) × ((r : Readout) → Joins script r → r ≡ read_out script)
