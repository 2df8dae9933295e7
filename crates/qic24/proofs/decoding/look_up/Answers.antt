use Rattle.std.proofs.Common.{◌≡◌, ℕ, ◌<◌, ◌≤◌, cond, eqb, get_or, sym, refl, ap, ◌∙◌, subst, Some, None, Option, arith}
use Rattle.std.proofs.lemmas.Bool.{ne_eqb}
use Rattle.qic24.specs.Decode.{entry}
use Rattle.qic24.specs.Symbols.{symbol_of}
use Rattle.qic24.specs.declared.decoding.Symbol.{Symbol}
use Rattle.qic24.specs.declared.decoding.Symbol.TheVariants.{Byte, Mark}
use Rattle.qic24.proofs.Groups.{entry-small}
use Rattle.qic24.proofs.Tables.{entry-is}
use Rattle.qic24.proofs.decoding.look_up.Goals as goal

-- what an entry reads as
abbrev reads : ℕ → Option Symbol
reads e = cond (eqb e 257) None (Some (symbol_of e))

a_byte : (e : ℕ) → e < 256 → Some (Byte e) ≡ reads e
a_byte e h = let n = ne_eqb e 257 (λ q. omega arith) in let m = ne_eqb e 256 (λ q. omega arith) in rw (n, m) refl

no_code : (e : ℕ) → (e < 256 → ⊥) → (e ≡ 256 → ⊥) → e ≤ 257 → e ≡ 257
no_code e h k l = grind arith

pub returns-in-Ok : goal.returns-in-Ok
returns-in-Ok c =
    let e = entry-is c.reading.ensures c.from.result (omega (arith, c.from.ensures, c.requires)) ∙ ap entry c.from.ensures in
    let b = c.in-Ok.ensures in
    ap (λ n. Some (Byte n)) b.1 ∙ a_byte (get_or c.reading.result.now c.from.result 0) b.0 ∙ ap reads e

pub returns-in-Err : goal.returns-in-Err
returns-in-Err c =
    let e = entry-is c.reading.ensures c.from.result (omega (arith, c.from.ensures, c.requires)) ∙ ap entry c.from.ensures in
    subst (λ e. Some Mark ≡ reads e) (sym c.if-entry-eq-MARK_BYTE.true ∙ e) refl

pub returns-in-Err-2 : goal.returns-in-Err-2
returns-in-Err-2 c =
    let e = entry-is c.reading.ensures c.from.result (omega (arith, c.from.ensures, c.requires)) ∙ ap entry c.from.ensures in
    let n = no_code (get_or c.reading.result.now c.from.result 0) c.in-Err-2.ensures c.if-entry-eq-MARK_BYTE.false (subst (λ m. m ≤ 257) (sym e) (entry-small c.args.group)) in
    subst (λ e. None ≡ reads e) (sym n ∙ e) refl
