-- What the calls on cartridges come to.
use Rattle.std.specs.Prelude.{◌≡◌, ℕ, ◌+◌, ◌<◌, cond, ◌↔◌, List, [], ◌∷◌, ◌++◌, length, take, drop, ◌==◌, slice_index}
use Rattle.tape.specs.Tape.{Tape, track, Run, Sends}
use Rattle.tape.specs.Stores.{Unspoiled}
use Rattle.tape.specs.Flaws.{under}
use Rattle.tape.specs.Sheets.{sheet_flaws, sheet_takes}
use Rattle.tape.specs.declared.sheet.FlawSheet.{FlawSheet}

-- the cells that some runs sent to the track t, one after the other
abbrev pub sent_to : ℕ → List Run → List ℕ
sent_to t [] = []
sent_to t (r ∷ rs) = cond (r.on == t) r.sent [] ++ sent_to t rs

-- what reads of so many cells each give, one after the other from the place p on
abbrev pub reads : List ℕ → ℕ → List ℕ → List ℕ
reads cells p [] = []
reads cells p (n ∷ ns) = take n (drop p cells) ++ reads cells (p + n) ns

-- some numbers together
abbrev pub total : List ℕ → ℕ
total [] = 0
total (n ∷ ns) = n + total ns

-- what was sent to a track is read back from where the track ended before, in any division into appends and into reads
abbrev pub ReadsBack : {S : Type 0} → (S → Tape) → (S → Run → S → Type 0) → Type 0
ReadsBack {S} tape takes = (s e : S) (rs : List Run) (t : ℕ) (ns : List ℕ) → Sends takes s rs e → reads (track (tape e) t) (length (track (tape s) t)) ns ≡ take (total ns) (sent_to t rs)

-- a sheet with no flaws takes exactly what the cartridge under it takes
abbrev pub ClearSheet : {S : Type 0} → (S → Tape) → (S → Run → S → Type 0) → Type 0
ClearSheet {S} tape takes = (s : FlawSheet S) (r : Run) (e : FlawSheet S) → sheet_flaws s ≡ [] → sheet_takes tape takes s r e ↔ (takes s.inner r e.inner × (e.table ≡ s.table))

-- over a medium that spoils nothing, a cell under a flaw is a zero after an append, and every other cell is as it was sent
abbrev pub ZerosUnderFlaws : {S : Type 0} → (S → Tape) → (S → Run → S → Type 0) → Type 0
ZerosUnderFlaws {S} tape takes =
    ((s : S) (r : Run) (e : S) → takes s r e → Unspoiled r (tape s) (tape e))
    → (s : FlawSheet S) (r : Run) (e : FlawSheet S) → sheet_takes tape takes s r e → (i : ℕ) → i < length r.sent
    → slice_index (track (tape e.inner) r.on) (length (track (tape s.inner) r.on) + i)
    ≡ cond (under (sheet_flaws s) r.on (length (track (tape s.inner) r.on) + i)) 0 (slice_index r.sent i)
