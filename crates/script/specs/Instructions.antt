-- What a command says, apart from the script that it stands in, and how it is written.
use Rattle.std.specs.Prelude.{◌≡◌, ℕ, zero, suc, ◌/◌, ◌%◌, ◌^◌, ◌<◌, List, [], ◌∷◌, ◌++◌, length}
use Rattle.std.specs.List.{flat_map, AllByRecursion}
use Rattle.script.specs.declared.command.Command.{Command}
use Rattle.script.specs.declared.command.Command.TheVariants.{Write, Mark, Begin, Stop, Replay, Flaw, Survey}

-- a command with its block as bytes and its operands as numbers
pub data Instruction : Type 0 where
  write : List ℕ → Instruction
  mark : Instruction
  begin : Instruction
  stop : Instruction
  replay : Instruction
  flaw : (track place cells : ℕ) → Instruction
  survey : Instruction

-- what a command of the program says
abbrev pub said : Command → Instruction
said (Write block) = write block.now
said Mark = mark
said Begin = begin
said Stop = stop
said Replay = replay
said (Flaw track place cells) = flaw track place cells
said Survey = survey

-- numbers that are bytes
abbrev pub Bytes : List ℕ → Type 0
Bytes bs = AllByRecursion (λ b. b < 256) bs

-- how many bytes a block has
abbrev pub block_size : ℕ
block_size = 512

-- an instruction that can be written: its block is whole, and each operand fits its width
abbrev pub Proper : Instruction → Type 0
Proper (write block) = (length block ≡ block_size) × Bytes block
Proper mark = Unit {0}
Proper begin = Unit {0}
Proper stop = Unit {0}
Proper replay = Unit {0}
Proper (flaw track place cells) = (track < 256) × (place < 2 ^ 32) × (cells < 2 ^ 16)
Proper survey = Unit {0}

-- a number as so many bytes, the high byte first
unfoldable pub big_endian : ℕ → ℕ → List ℕ
big_endian zero n = []
big_endian (suc width) n = big_endian width (n / 256) ++ (n % 256 ∷ [])

-- the writer: one byte that names the command, then its operands
abbrev pub written : Instruction → List ℕ
written (write block) = 1 ∷ block
written mark = 2 ∷ []
written begin = 3 ∷ []
written stop = 4 ∷ []
written replay = 5 ∷ []
written (flaw track place cells) = 6 ∷ track ∷ (big_endian 4 place ++ big_endian 2 cells)
written survey = 7 ∷ []

-- a script: its instructions, one after the other
abbrev pub script_of : List Instruction → List ℕ
script_of is = flat_map written is
