-- A flaw sheet over a cartridge: what it sends on.
use Rattle.std.specs.Prelude.{◌≡◌, ℕ, ◌<◌, List, [], ◌∷◌, length}
use Rattle.std.specs.List.{flat_map, AllByRecursion}
use Rattle.tape.specs.Tape.{Tape, track, Run, Sends}
use Rattle.tape.specs.Flaws.{masked, Clean}
use Rattle.tape.specs.FlawTables.{table_flaws}
use Rattle.tape.specs.declared.flaw.Flaw.{Flaw}
use Rattle.tape.specs.declared.sheet.FlawSheet.{FlawSheet}

-- the flaws that were entered
abbrev pub sheet_flaws : {C : Type 0} → FlawSheet C → List Flaw
sheet_flaws s = table_flaws s.table

-- runs that stand for the run r from the place p of its track on: on the same track its cells, in any division,
-- with a zero wherever one is under a flaw. Where none is, the run as it is
pub record Divided (fs : List Flaw) (p : ℕ) (r : Run) (rs : List Run) : Type 0 where
  pub on_track : AllByRecursion (λ q. q.on ≡ r.on) rs
  pub together : flat_map (λ q. q.sent) rs ≡ masked fs r.on p r.sent
  pub whole : Clean fs r.on p (length r.sent) → rs ≡ r ∷ []

-- what the cartridge under a sheet with these flaws is led to: it takes such runs, one after the other
pub record Passes {S : Type 0} (cells : S → Tape) (takes : S → Run → S → Type 0) (fs : List Flaw) (s : S) (r : Run) (e : S) : Type 0 where
  pub there : r.on < length (cells s)
  pub runs : List Run
  pub divided : Divided fs (length (track (cells s) r.on)) r runs
  pub sends : Sends takes s runs e

-- what an append to a sheet leads to: the flaws stay
abbrev pub sheet_takes : {S : Type 0} → (S → Tape) → (S → Run → S → Type 0) → FlawSheet S → Run → FlawSheet S → Type 0
sheet_takes cells takes s r e = Passes cells takes (sheet_flaws s) s.inner r e.inner × (e.table ≡ s.table)
