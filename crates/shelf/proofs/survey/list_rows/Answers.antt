use Rattle.std.proofs.Common.{◌≡◌, ◌+◌, false, List, [], ◌∷◌, Ok, IfOk, IfSome, Option, sym, ap, ◌∙◌, subst}
use Rattle.std.proofs.lemmas.Bool.{not-true}
use Rattle.qic24.specs.Decode.{mapped_ok}
use Rattle.replay.specs.declared.cursor.ReplayCursor.{ReplayCursor}
use Rattle.shelf.specs.Shelf.{ShelfRow}
use Rattle.shelf.specs.Survey.{tape_shelf, shelf_from, next_row, GoesFurther, PutOver}
use Rattle.shelf.proofs.Files.{Listing, listing_start, listing_more, listing_last}
use Rattle.shelf.proofs.survey.list_rows.Goals as goal

pub loop-row-init : goal.loop-row-init
loop-row-init g c =
    let s = g.C.Reading.cells c.args.cartridge.now in
    let rows = c.args.rows.now in
    subst (λ (k : ReplayCursor). Listing s rows k 0 rows) (sym c.rewound-cursor.ensures) (listing_start s rows)

pub loop-row-preserved : goal.loop-row-preserved
loop-row-preserved g c =
    let s = g.C.Reading.cells c.args.cartridge.now in
    let l = c.loop-row in
    let k = c.next_file.new.cursor in
    let m = c.in_ok-row.ensures in
    let e = subst (λ (x : Option ShelfRow). shelf_from s l.cursor ≡ next_row (Ok x) (shelf_from s k)) c.in-Some.is m.row in
    let f = subst (λ (x : Option ShelfRow). IfSome x (λ _. GoesFurther s l.cursor k)) c.in-Some.is m.further in
    subst (λ (z : List ShelfRow). Listing s c.args.rows.now k (l.filed + 1) z) (sym c.put_row.ensures) (listing_more s c.args.rows.now l.cursor l.filed l.rows l.invariant k c.in-Some.row e f)

pub returns-then-not-row-clause-rows : goal.returns-then-not-row-clause-rows
returns-then-not-row-clause-rows g c =
    let s = g.C.Reading.cells c.args.cartridge.now in
    let l = c.loop-row in
    let k = c.next_file.new.cursor in
    let m = c.in_ok-row.ensures in
    let e = subst (λ (x : Option ShelfRow). shelf_from s l.cursor ≡ next_row (Ok x) (shelf_from s k)) c.in-Some.is m.row in
    let ended = subst (λ (x : Option ShelfRow). IfSome x (λ r. r.closed ≡ false → shelf_from s k ≡ Ok [])) c.in-Some.is m.last (not-true c.in-Some.row.closed c.if-not-row.true) in
    let last = e ∙ ap (mapped_ok (λ list. c.in-Some.row ∷ list)) ended in
    subst (λ (z : List ShelfRow). IfOk (tape_shelf s) (λ list. PutOver list c.args.rows.now z)) (sym c.put_row.ensures) (listing_last s c.args.rows.now l.cursor l.filed l.rows l.invariant c.in-Some.row last)
