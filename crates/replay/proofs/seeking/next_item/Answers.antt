use Rattle.std.proofs.Common.{◌≡◌, ℕ, suc, ◌+◌, ◌-◌, ◌<◌, ◌≤◌, ap, ◌∙◌, arith}
use Rattle.qic24.specs.Copy.{held}
use Rattle.replay.specs.Copies.{body_cells, OfCartridge, place_on}
use Rattle.replay.specs.Scan.{openings_from}
use Rattle.replay.specs.Seeking.{found_end, next_found, cursor_after}
use Rattle.replay.proofs.FoundThings.{next_finds}
use Rattle.replay.proofs.Replaying.{replays_sound_copies, replays_in_order, next_by-next}
use Rattle.replay.proofs.Seeks.{none_sound, copy_within, copy_fewer, copy_smaller, copy-expected, copy-next, copy-beyond}
use Rattle.replay.proofs.SoundCopies.{lists_sound_copies, one_list, never_overlap}
use Rattle.replay.proofs.TapeOpenings.{opens_exactly}
use Rattle.replay.proofs.seeking.next_item.Goals as goal

-- neither smaller, nor the expected number, nor the one after it
beyond : (k n : ℕ) → n ≤ k → (k ≡ n → ⊥) → (k - 1 ≡ n → ⊥) → suc n < k
beyond k n a d f = grind arith

pub overflow_add-at : goal.overflow_add-at
overflow_add-at g c =
    let s = c.args.cartridge.now in
    let h : OfCartridge (g.C.Reading.cells s) = record { few = g.met.C.Reading.few s; binary = g.met.C.Reading.binary s } in
    omega (arith, copy_within (g.C.Reading.cells s) h c.loop-place.from c.in-Some.place (held c.in-Some.item) c.in-Some.ensures.copy, g.met.C.Reading.inside s c.in-Some.place.on, g.met.C.Reading.small s)

pub loop-place-smaller-then-number-expected : goal.loop-place-smaller-then-number-expected
loop-place-smaller-then-number-expected g c =
    let s = c.args.cartridge.now in
    let h : OfCartridge (g.C.Reading.cells s) = record { few = g.met.C.Reading.few s; binary = g.met.C.Reading.binary s } in
    copy_fewer (g.C.Reading.cells s) h c.loop-place.from c.in-Some.place (held c.in-Some.item) c.in-Some.ensures.copy

pub loop-place-preserved-then-number-expected : goal.loop-place-preserved-then-number-expected
loop-place-preserved-then-number-expected g c =
    let s = c.args.cartridge.now in
    let l = c.loop-place in
    let h : OfCartridge (g.C.Reading.cells s) = record { few = g.met.C.Reading.few s; binary = g.met.C.Reading.binary s } in
    copy_smaller (g.C.Reading.cells s) h l.from c.in-Some.place (held c.in-Some.item) c.in-Some.ensures.copy c.args.cursor.now.expected l.passed l.unsound c.copy_from.new.unsound c.in-Some.ensures.noted (omega arith) ∙ l.invariant

pub returns-then-number-expected-2 : goal.returns-then-number-expected-2
returns-then-number-expected-2 g c =
    let s = c.args.cartridge.now in
    let l = c.loop-place in
    let k = c.args.cursor.now in
    let p = c.in-Some.place in
    let h : OfCartridge (g.C.Reading.cells s) = record { few = g.met.C.Reading.few s; binary = g.met.C.Reading.binary s } in
    let is = copy-expected (g.C.Reading.cells s) h l.from p (held c.in-Some.item) c.in-Some.ensures.copy k.expected l.passed l.unsound c.copy_from.new.unsound c.in-Some.ensures.noted (omega arith) ∙ l.invariant in
    let e : k.expected + 1 ≡ suc k.expected = omega arith in
    record {
      answer = is;
      after = ap (λ (n : ℕ). record { expected = n; from = place_on p.on (p.at + body_cells) }) e ∙ ap (cursor_after k) is;
      finds = next_finds;
      steps = next_by-next;
      copies = replays_sound_copies;
      order = replays_in_order;
      lists = lists_sound_copies;
      once = one_list;
      openings = opens_exactly;
      clear = never_overlap;
    }

pub loop-place-smaller : goal.loop-place-smaller
loop-place-smaller g c =
    let s = c.args.cartridge.now in
    let h : OfCartridge (g.C.Reading.cells s) = record { few = g.met.C.Reading.few s; binary = g.met.C.Reading.binary s } in
    copy_fewer (g.C.Reading.cells s) h c.loop-place.from c.in-Some.place (held c.in-Some.item) c.in-Some.ensures.copy

pub loop-place-preserved : goal.loop-place-preserved
loop-place-preserved g c =
    let s = c.args.cartridge.now in
    let l = c.loop-place in
    let h : OfCartridge (g.C.Reading.cells s) = record { few = g.met.C.Reading.few s; binary = g.met.C.Reading.binary s } in
    copy-next (g.C.Reading.cells s) h l.from c.in-Some.place (held c.in-Some.item) c.in-Some.ensures.copy c.args.cursor.now.expected l.passed l.unsound c.copy_from.new.unsound c.in-Some.ensures.noted (omega (arith, c.in-Some.item.numbered.0)) ∙ l.invariant

pub returns-in-Some : goal.returns-in-Some
returns-in-Some g c =
    let s = c.args.cartridge.now in
    let l = c.loop-place in
    let k = c.args.cursor.now in
    let h : OfCartridge (g.C.Reading.cells s) = record { few = g.met.C.Reading.few s; binary = g.met.C.Reading.binary s } in
    let far : suc k.expected < c.in-Some.item.number = omega (arith, beyond c.number-number.result k.expected c.if-number-expected.false c.if-number-expected-2.false c.if-number-expected-3.false) in
    let is = copy-beyond (g.C.Reading.cells s) h l.from c.in-Some.place (held c.in-Some.item) c.in-Some.ensures.copy k.expected l.passed l.unsound c.copy_from.new.unsound c.in-Some.ensures.noted far ∙ l.invariant in
    record { answer = is; after = ap (cursor_after k) is; finds = next_finds; steps = next_by-next; copies = replays_sound_copies; order = replays_in_order; lists = lists_sound_copies; once = one_list; openings = opens_exactly; clear = never_overlap }

pub returns : goal.returns
returns g c =
    let s = c.args.cartridge.now in
    let l = c.loop-place in
    let k = c.args.cursor.now in
    let is : found_end l.passed ≡ next_found (g.C.Reading.cells s) k = none_sound (openings_from (g.C.Reading.cells s) l.from) c.in_default.ensures.copy k.expected l.passed l.unsound ∙ l.invariant in
    record { answer = is; after = ap (cursor_after k) is; finds = next_finds; steps = next_by-next; copies = replays_sound_copies; order = replays_in_order; lists = lists_sound_copies; once = one_list; openings = opens_exactly; clear = never_overlap }
