use Rattle.std.proofs.Common.{ℕ, ◌-◌, ◌+◌, ◌%◌, List, length, take, drop, ap, ◌∙◌, arith}
use Rattle.packed.proofs.Gets.{bits_of_byte}
use Rattle.packed.proofs.packed.bytes.get_part.Goals as goal

pub returns-then-not-is_empty : goal.returns-then-not-is_empty
returns-then-not-is_empty c =
    let j = c.args.place % 8 in
    let n = length c.args.out.now in
    c.copy_from_slice.ensures.after
    ∙ ap (λ (xs : List ℕ). take (j + n - j) (drop j xs)) c.unpacked8-cells.ensures
    ∙ bits_of_byte c.args.bytes.now c.args.place n (j + n - j) c.requires.part (omega arith)
