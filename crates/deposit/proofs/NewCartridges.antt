-- What was recorded on a new cartridge that spoils nothing is replayed.
use Rattle.std.proofs.Common.{◌≡◌, suc, Bool, List, [], length, sym, subst, append-nil}
use Rattle.qic24.specs.Copy.{Numbered}
use Rattle.replay.specs.Copies.{NoFalseCopy}
use Rattle.replay.specs.Replay.{expecting}
use Rattle.replay.specs.Seeking.{tape_replay}
use Rattle.deck.specs.Calls.{kept_list}
use Rattle.deck.specs.Deck.{deck_idle}
use Rattle.deck.specs.CallsMade.{no_call}
use Rattle.deck.proofs.OnlyPut.{put_on_new, only_what_was_put}
use Rattle.deposit.specs.NewCartridge.{ReplaysWhatWasKept}
use Rattle.deck.proofs.Agreeing.{handed_over}

pub replays_what_was_kept : ReplaysWhatWasKept
replays_what_was_kept room tracks l ds log c d n b =
    subst (λ (is : List Numbered). (p : Bool) × ((tape_replay c).state ≡ expecting is (suc (length is)) p)) (append-nil (kept_list ds))
    (handed_over c ds []
    (record {
      room = room;
      tracks = tracks;
      middle = c;
      log_one = log;
      log_two = [];
      by_one = d;
      by_two = no_call;
      cells = (put_on_new room tracks l ds log c deck_idle d n b).going.cells;
      no_false = subst (NoFalseCopy c) (sym (append-nil log)) (λ f. (only_what_was_put room tracks l ds log c deck_idle d n b f).0);
    }))
