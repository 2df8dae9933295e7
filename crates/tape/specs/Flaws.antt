-- Flaws, and the cells under them.
use Rattle.std.specs.Prelude.{◌≡◌, ℕ, ◌+◌, ◌-◌, ◌*◌, ◌<◌, ◌≤◌, min, max, Bool, false, cond, ◌&&◌, ◌||◌, List, [], ◌∷◌, length, get_or, Ok, Err, Result, ◌==◌, nat_le, nat_lt, slice_index_or}
use Rattle.tape.specs.declared.refusal.Refusal.{Refusal}
use Rattle.tape.specs.declared.refusal.Refusal.TheVariants.{SheetFull, FlawOutside, FlawTooEarly}
use Rattle.tape.specs.Tape.{most_cells}
use Rattle.tape.specs.declared.flaw.Flaw.{Flaw}

-- a sheet holds at most so many flaws
abbrev pub most_flaws : ℕ
most_flaws = 64

-- the number of a cell, counted over all tracks
abbrev pub cell_number : ℕ → ℕ → ℕ
cell_number t p = t * most_cells + p

-- the number of a flaw's first cell, and that of the first cell after it
abbrev pub flaw_first : Flaw → ℕ
flaw_first f = cell_number f.on f.place

abbrev pub flaw_end : Flaw → ℕ
flaw_end f = flaw_first f + f.extent

-- no cell is under this one, and it ends at 0
abbrev pub no_flaw : Flaw
no_flaw = record { on = 0; place = 0; extent = 0 }

-- the cell at the place p of the track t is under the flaw
abbrev pub covers : Flaw → ℕ → ℕ → Bool
covers f t p = f.on == t && (nat_le f.place p && nat_lt p (f.place + f.extent))

-- it is under one of the flaws
abbrev pub under : List Flaw → ℕ → ℕ → Bool
under [] t p = false
under (f ∷ fs) t p = covers f t p || under fs t p

-- cells for a track from the place p on, with a zero wherever one is under a flaw
abbrev pub masked : List Flaw → ℕ → ℕ → List ℕ → List ℕ
masked fs t p [] = []
masked fs t p (x ∷ xs) = cond (under fs t p) 0 x ∷ masked fs t (p + 1) xs

-- one of the n cells from the place p of the track t on has a number that the flaw has
abbrev pub meets : ℕ → ℕ → ℕ → Flaw → Bool
meets t p n f = nat_lt (max (cell_number t p) (flaw_first f)) (min (cell_number t p + n) (flaw_end f))

-- none of the n cells from the place p of the track t on is under a flaw
abbrev pub Clean : List Flaw → ℕ → ℕ → ℕ → Type 0
Clean fs t p n = (i : ℕ) → i < n → under fs t (p + i) ≡ false

-- flaws are in order and disjoint
abbrev pub Apart : List Flaw → Type 0
Apart fs = (i j : ℕ) → i < j → j < length fs → flaw_end (slice_index_or fs i no_flaw) ≤ flaw_first (slice_index_or fs j no_flaw)

-- and none goes past the longest possible track
abbrev pub Whole : List Flaw → Type 0
Whole fs = (i : ℕ) → i < length fs → (get_or fs i no_flaw).place + (get_or fs i no_flaw).extent ≤ most_cells

-- a flaw has cells, on a cartridge with n tracks of c cells
abbrev pub flaw_fits : ℕ → ℕ → Flaw → Bool
flaw_fits n c f = (nat_lt f.on n && nat_lt 0 f.extent) && nat_le (f.place + f.extent) c

-- where the last of some flaws ends
abbrev pub last_end : List Flaw → ℕ
last_end fs = flaw_end (slice_index_or fs (length fs - 1) no_flaw)

-- the answer to a flaw that is to be entered after some others
abbrev pub entering : List Flaw → ℕ → ℕ → Flaw → Result (Unit {0}) Refusal
entering fs n c f =
    cond (length fs == most_flaws) (Err SheetFull)
    (cond (flaw_fits n c f) (cond (nat_le (last_end fs) (flaw_first f)) (Ok tt) (Err FlawTooEarly)) (Err FlawOutside))
