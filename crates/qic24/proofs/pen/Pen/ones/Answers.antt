use Rattle.std.proofs.Common.{◌≡◌, ◌+◌, ◌-◌, length, take, drop, replicate, sym, refl, ap, ◌∙◌, arith}
use Rattle.std.proofs.lemmas.List.{length-take-le, length-drop, length-replicate}
use Rattle.qic24.specs.Copy.{ones}
use Rattle.qic24.proofs.Overlay.{overlay_part}
use Rattle.qic24.proofs.pen.Pen.ones.Goals as goal

pub returns : goal.returns
unfolding ones
returns c =
    let o = c.args.self.now.out.now in
    let at = c.args.self.now.at in
    let n = c.args.count in
    let k : at + n - at ≡ n = omega arith in
    let l : length (take (at + n - at) (drop at o)) ≡ n = rw k (length-take-le n (drop at o) (rw length-drop (omega (arith, c.requires)))) in
    let a : c.fill.new.self ≡ replicate n 1 = c.fill.ensures.after (λ y e. e) ∙ ap (λ m. replicate m 1) l in
    let r = length-replicate n 1 in
    record { same = refl; place = ap (λ m. at + m) (sym r); cells = overlay_part o c.fill.new.self (replicate n 1) at (at + n - at) a (k ∙ sym r) }
