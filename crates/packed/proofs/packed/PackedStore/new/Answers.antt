use Rattle.std.proofs.Common.{◌≡◌, ℕ, zero, suc, cond, get_or, replicate, vec_len, refl, rules, arith, ◌∙◌}
use Rattle.std.proofs.lemmas.Grind.{common_steps}
use Rattle.packed.specs.PackedStores.{packed_fits, packed_store_tape, packed_store_room}
use Rattle.tape.specs.Stores.{Stores}
use Rattle.tape.proofs.Promised.{reads_back}
use Rattle.packed.proofs.PackedTapes.{packed_blank}
use Rattle.packed.proofs.packed.PackedStore.new.Goals as goal

-- no track of a store that was just made has cells
none : (n t : ℕ) → ◌≡◌ {A = ℕ} (get_or (replicate n 0) t 0) 0
none zero t = refl
none (suc n) zero = refl
none (suc n) (suc t) = none n t

pub returns-clause-back : goal.returns-clause-back
returns-clause-back c = reads_back packed_store_tape (Stores packed_store_tape packed_store_room) (λ s r e k. k.0)

pub returns-clause-cells : goal.returns-clause-cells
returns-clause-cells c =
    let sizes = c.for_store-answer.result.0 in
    let tracks : sizes.tracks ≡ cond (packed_fits c.args.tracks c.args.capacity (vec_len c.args.memory)) c.args.tracks 0 = search rules in
    packed_blank c.args.memory.items sizes.tracks sizes.capacity _ (none 9) ∙ grind (arith, common_steps)
