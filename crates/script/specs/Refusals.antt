-- The numbers of the refusals.
use Rattle.std.specs.Prelude.{ℕ}
use Rattle.script.specs.declared.refusal.Refusal.{Refusal}
use Rattle.script.specs.declared.refusal.Refusal.TheVariants.{UnknownCommand, CutShort}

-- the number by which a refusal is known
abbrev pub refusal_number : Refusal → ℕ
refusal_number UnknownCommand = 2
refusal_number CutShort = 3
