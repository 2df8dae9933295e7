-- How the front of some bytes is read, and what an answer says.
use Rattle.std.specs.Prelude.{ℕ, cond, List, [], ◌∷◌, length, take, drop, Some, None, Ok, Err, Option, Result, ◌==◌, nat_le, slice_index}
use Rattle.std.specs.Int.Digits.{number_from_digits}
use Rattle.script.specs.declared.command.Command.{Command}
use Rattle.script.specs.declared.refusal.Refusal.{Refusal}
use Rattle.script.specs.declared.refusal.Refusal.TheVariants.{UnknownCommand, CutShort}
use Rattle.script.specs.Instructions.{Instruction, write, mark, begin, stop, replay, flaw, survey, said, block_size, written}

-- what a reader answers: an instruction, the end of the script, or a refusal
pub data Answer : Type 0 where
  next : Instruction → Answer
  end : Answer
  refused : Refusal → Answer

-- what the program's answer says
abbrev pub told : Result (Option Command) Refusal → Answer
told (Ok None) = end
told (Ok (Some c)) = next (said c)
told (Err e) = refused e

-- a command that was read, or the refusal in its place
abbrev pub answered : Result Command Refusal → Answer
answered (Ok c) = next (said c)
answered (Err e) = refused e

-- an instruction whose operands are the first `size` of some bytes, unless the script ends before
abbrev pub holding : ℕ → List ℕ → Instruction → Answer
holding size rest i = cond (nat_le size (length rest)) (next i) (refused CutShort)

-- the answer at a command byte and the bytes after it
abbrev pub at_byte : ℕ → List ℕ → Answer
at_byte b rest =
    cond (b == 1) (holding block_size rest (write (take block_size rest)))
    (cond (b == 2) (next mark)
    (cond (b == 3) (next begin)
    (cond (b == 4) (next stop)
    (cond (b == 5) (next replay)
    (cond (b == 6) (holding 7 rest (flaw (slice_index rest 0) (number_from_digits 256 (take 4 (drop 1 rest))) (number_from_digits 256 (take 2 (drop 5 rest)))))
    (cond (b == 7) (next survey)
    (refused UnknownCommand)))))))

-- the answer at some bytes: the end of the script where there are none
abbrev pub read : List ℕ → Answer
read [] = end
read (b ∷ rest) = at_byte b rest

-- the bytes that an answer takes from the script: those of its instruction, or none
abbrev pub taken : Answer → List ℕ
taken (next i) = written i
taken end = []
taken (refused e) = []
