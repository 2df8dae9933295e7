use Rattle.std.proofs.Common.{rules, ◌≡◌, false, sym, ◌∙◌}
use Rattle.std.specs.Result.{MatchResult}
use Rattle.qic24.specs.Copy.{held}
use Rattle.replay.specs.Scan.{same_item}
use Rattle.replay.proofs.Growing.{sound_for_good}
use Rattle.replay.proofs.Opened.{not_standing, stands-read, same_item-derived}
use Rattle.replay.proofs.SoundCopies.{stands_exactly}
use Rattle.replay.proofs.standing.copy_stands.Goals as goal

pub returns-then-opens_at : goal.returns-then-opens_at
returns-then-opens_at g c =
    let same : MatchResult c.read_copy.result (λ x. c.is_ok_and.result ≡ same_item (held x) (held c.args.item.now)) (λ _. c.is_ok_and.result ≡ false) = search (rules, same_item-derived) in
    record {
      answer = stands-read (g.C.Reading.cells c.args.cartridge.now) c.args.place (held c.args.item.now) (sym c.if-opens_at.ensures) c.read_copy.result c.is_ok_and.result c.read_copy.ensures same;
      exactly = stands_exactly;
      good = sound_for_good;
    }

pub returns-else-opens_at : goal.returns-else-opens_at
returns-else-opens_at g c =
    record { answer = c.if-opens_at.false ∙ sym (not_standing (g.C.Reading.cells c.args.cartridge.now) c.args.place (held c.args.item.now) (sym c.if-opens_at.ensures)); exactly = stands_exactly; good = sound_for_good }
