-- What stands at the front of some bytes, said by the writer alone, with no word on how they are read.
use Rattle.std.specs.Prelude.{◌≡◌, ℕ, ◌<◌, List, [], ◌∷◌, ◌++◌, length, ◌≢◌}
use Rattle.script.specs.declared.refusal.Refusal.{Refusal}
use Rattle.script.specs.declared.refusal.Refusal.TheVariants.{UnknownCommand, CutShort}
use Rattle.script.specs.Instructions.{Instruction, Proper, written}
use Rattle.script.specs.Reading.{Answer, next, end, refused}

-- the bytes begin with an instruction
pub record Begins (bytes : List ℕ) (i : Instruction) : Type 0 where
  pub proper : Proper i
  pub rest : List ℕ
  pub is : bytes ≡ written i ++ rest

-- the bytes end inside an instruction: they are its first ones, and at least one more is missing
pub record Inside (bytes : List ℕ) : Type 0 where
  pub some : 0 < length bytes
  pub instruction : Instruction
  pub proper : Proper instruction
  pub missing : List ℕ
  pub more : 0 < length missing
  pub is : bytes ++ missing ≡ written instruction

-- no instruction begins with the first of the bytes
pub record Unknown (bytes : List ℕ) : Type 0 where
  pub first : ℕ
  pub rest : List ℕ
  pub is : bytes ≡ first ∷ rest
  pub none : (i : Instruction) (operands : List ℕ) → Proper i → written i ≢ first ∷ operands

-- the bytes at which a refusal stands
abbrev pub RefusedAt : List ℕ → Refusal → Type 0
RefusedAt bytes UnknownCommand = Unknown bytes
RefusedAt bytes CutShort = Inside bytes

-- the bytes at which an answer stands
abbrev pub StandsAt : List ℕ → Answer → Type 0
StandsAt bytes (next i) = Begins bytes i
StandsAt bytes end = bytes ≡ []
StandsAt bytes (refused e) = RefusedAt bytes e

-- an answer stands at the bytes, and no other does
pub record OnlyAnswer (bytes : List ℕ) (a : Answer) : Type 0 where
  pub stands : StandsAt bytes a
  pub only : (other : Answer) → StandsAt bytes other → other ≡ a
