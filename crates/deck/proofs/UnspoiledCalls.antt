-- On a medium that spoils nothing every call can be made.
use Rattle.std.proofs.Common.{◌≡◌, ℕ, ◌<◌, true, List, [], ◌∷◌, ◌++◌, length, set, sym, refl, subst, length-set, get_or-set_other, get_or-set_same}
use Rattle.tape.specs.Tape.{Tape, track, Run, Longer, Grown}
use Rattle.replay.specs.Scan.{stands}
use Rattle.replay.specs.Seeking.{tape_replay}
use Rattle.replay.proofs.Growing.{grown_extends}
use Rattle.deck.specs.Deck.{deck_idle, CallOutcome, call_does}
use Rattle.deck.specs.CallsMade.{outcome}
use Rattle.deck.specs.Recorded.{AllFit}
use Rattle.deck.specs.Unspoiled.{AsSent, CanBeMade}
use Rattle.deck.proofs.FittingRuns.{runs_fit}
use Rattle.deck.proofs.CarriedCopies.{carry}
use Rattle.deck.proofs.CartridgeCells.{carried_cells}
use Rattle.deck.proofs.GoingWell.{good_there, as_good, goes_on_well}

-- the tape with a run taken as it was sent
abbrev with_run : Tape → Run → Tape
with_run c r = set c r.on (track c r.on ++ r.sent)

abbrev longer_with : (c : Tape) (r : Run) → r.on < length c → Longer r c (with_run c r)
longer_with c r h = record {
  there = h;
  added = r.sent;
  count = refl;
  is = get_or-set_same c r.on (track c r.on ++ r.sent) [] h;
  others = λ t d. get_or-set_other c r.on t (track c r.on ++ r.sent) [] d;
  tracks = length-set c r.on (track c r.on ++ r.sent);
}

-- runs that fit, taken as they were sent
all-taken : (room : ℕ) (c : Tape) (rs : List Run) → AllFit room c rs → (m : Tape) × (g : Grown c rs m) × AsSent rs c m g
all-taken room c [] f = (c, refl, tt)
all-taken room c (r ∷ rs) f =
    let l = longer_with c r f.0 in
    let (m, g, a) = all-taken room (with_run c r) rs (f.2 (with_run c r) l) in
    (m, (with_run c r, l, g), (refl, a))

pub can_be_made : CanBeMade
can_be_made room b k one ds log c s d n y call =
    let w = goes_on_well room b deck_idle ds log c s d n y (record { cells = k; valid = tt; sure = tt; well = tt }) in
    let o : CallOutcome = call_does (tape_replay c) (λ f. true) room c s call in
    let (m, g, a) = all-taken room c o.runs (runs_fit room b one ds log c s d (tape_replay c) (λ f. true) call) in
    let cells = carried_cells _ c m o.runs o.puts (carry room c (tape_replay c) (λ f. true) s call w.valid) g a w.cells in
    let same : outcome room c m s call ≡ o = as_good room c (tape_replay c) (stands m) s call (good_there c m s (grown_extends o.runs c m g) cells w.well) in
    let z = subst (λ (q : CallOutcome). (g : Grown c q.runs m) × AsSent q.runs c m g) (sym same) (g, a) in
    (m, z.0, z.1)
