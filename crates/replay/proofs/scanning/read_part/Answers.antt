use Rattle.std.proofs.Common.{◌≡◌, ℕ, min, List, length, take, drop, sym, ap, ◌∙◌, arith, length-drop}
use Rattle.std.proofs.lemmas.List.{length-take-le}
use Rattle.tape.specs.Tape.{track}
use Rattle.replay.proofs.Parts.{read-refused, take-least}
use Rattle.replay.proofs.scanning.read_part.Goals as goal

pub returns-in-Ok : goal.returns-in-Ok
returns-in-Ok g c =
    let n = c.min-count.result in
    let out : List ℕ = c.args.out.now in
    let t = track (g.C.Reading.cells c.args.cartridge.now) c.args.place.on in
    let count : n ≡ min (length out) (length (drop c.args.place.at t)) = omega (arith, length-drop c.args.place.at t) in
    let l : length (take n out) ≡ n = length-take-le n out (omega arith) in
    c.in-Ok.ensures.buffer ∙ (ap (λ (k : ℕ). take k (drop c.args.place.at t)) l ∙ take-least (length out) n (drop c.args.place.at t) count)

pub returns-in-Err : goal.returns-in-Err
returns-in-Err g c =
    let n = c.min-count.result in
    let out : List ℕ = c.args.out.now in
    let s = g.C.Reading.cells c.args.cartridge.now in
    let t = track s c.args.place.on in
    let count : n ≡ min (length out) (length (drop c.args.place.at t)) = omega (arith, length-drop c.args.place.at t) in
    let l : length (take n out) ≡ n = length-take-le n out (omega arith) in
    let z : length (take n out) ≡ 0 = read-refused s c.args.place.on c.args.place.at (length (take n out)) c.in-Err.field-0 c.in-Err.ensures.answer (omega arith) in
    ap (λ (k : ℕ). take k (drop c.args.place.at t)) (sym z ∙ l) ∙ take-least (length out) n (drop c.args.place.at t) count
