use Rattle.std.proofs.Common.{List, map, vec_items, sym, ap, ◌∙◌, subst}
use Rattle.qic24.specs.Copy.{held}
use Rattle.qic24.specs.declared.item.Item.{Item}
use Rattle.replay.specs.Copies.{OfCartridge}
use Rattle.replay.specs.Scan.{tape_start}
use Rattle.replay.specs.declared.cursor.ReplayCursor.{ReplayCursor}
use Rattle.replay.proofs.Replaying.{ReplaysFrom, replays_from_start}
use Rattle.deposit.specs.WholeReplay.{end_found}
use Rattle.deposit.proofs.WholeReplays.{last-kept, fewer_left, more-replayed, end-replayed, beyond-replayed}
use Rattle.deposit.proofs.replaying.replay_all.Given as given
use Rattle.deposit.proofs.replaying.replay_all.Goals as goal
use Rattle.deposit.proofs.replaying.replay_all.Goals.{in-Ok-End, in-Err}

pub loop-item-init : goal.loop-item-init
loop-item-init g c =
    let s = g.C.Reading.cells c.args.cartridge.now in
    subst (λ (k : ReplayCursor). ReplaysFrom s (map held (vec_items c.new-items.result)) k.expected k.from) (sym c.rewound-cursor.ensures)
    (subst (λ (xs : List Item). ReplaysFrom s (map held xs) 1 tape_start) (sym c.new-items.ensures.items) (replays_from_start s))

of_cartridge : (g : given.Over) (s : g.row.C.Denot) → OfCartridge (g.C.Reading.cells s)
of_cartridge g s = record { few = g.met.C.Reading.few s; binary = g.met.C.Reading.binary s }

pub loop-item-smaller : goal.loop-item-smaller
loop-item-smaller g c =
    let s = c.args.cartridge.now in
    let i = c.in-Ok-Item in
    fewer_left (g.C.Reading.cells s) (of_cartridge g s) c.loop-item.cursor i.field-0 i.field-0-0 i.item i.after i.field-0-is i.ensures.answer i.ensures.after

pub loop-item-preserved : goal.loop-item-preserved
loop-item-preserved g c =
    let s = c.args.cartridge.now in
    let i = c.in-Ok-Item in
    let xs = vec_items c.loop-item.items in
    let pushed = last-kept c.push.result c.in_ok-push-in-Ok-Item.field-0 xs (vec_items c.push.new.self) i.item c.in_ok-push-in-Ok-Item.was c.push.ensures.items in
    subst (λ (ys : List Item). ReplaysFrom (g.C.Reading.cells s) (map held ys) i.after.expected i.after.from) (sym pushed)
    (more-replayed (g.C.Reading.cells s) (of_cartridge g s) c.loop-item.cursor i.field-0 i.field-0-0 i.item i.after i.field-0-is i.ensures.answer i.ensures.after xs c.loop-item.invariant)

pub returns : goal.returns
returns g c =
    let s = g.C.Reading.cells c.args.cartridge.now in
    let k = c.loop-item.cursor in
    elim c.match-next_item.branch [
      | in-Ok-End w ↦
          let (items, ends) = end-replayed s (vec_items c.loop-item.items) k c.loop-item.invariant w.in-Ok-End.field-0 w.in-Ok-End.passed w.in-Ok-End.field-0-is w.in-Ok-End.ensures.answer in
          record { items = items; ends = ap end_found w.ending-is ∙ ends }
      | in-Err w ↦
          let (items, ends) = beyond-replayed s (vec_items c.loop-item.items) k c.loop-item.invariant w.in-Err.unlocated w.in-Err.ensures.answer in
          record { items = items; ends = ap end_found w.ending-is ∙ ends }
    ]
