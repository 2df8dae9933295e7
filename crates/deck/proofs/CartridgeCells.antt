-- What is sent is cells, so that a cartridge that spoils nothing stays one.
use Rattle.std.proofs.Common.{◌≡◌, ℕ, zero, suc, ◌/◌, ◌%◌, Bool, List, [], ◌∷◌, ◌++◌, get_or, replicate, sym, ap, ◌∙◌, subst, ⊎_elim, arith, lit<}
use Rattle.std.specs.List.{AllByRecursion}
use Rattle.std.proofs.ByRecursion.{All-append}
use Rattle.std.proofs.lemmas.Bool.{cases_eq}
use Rattle.qic24.specs.Cells.{Cell, concat, bits, nibble_codes, nibble_cells, byte_cells, mark_cells}
use Rattle.qic24.specs.Copy.{Numbered, coded, mark_data, data_cells, address, two_bytes, item_crc, body, marker, ones, copy, preamble_ones}
use Rattle.qic24.specs.declared.item.Content.{Content}
use Rattle.qic24.specs.declared.item.Content.TheVariants.{Block, Mark}
use Rattle.qic24.proofs.Binary.{bits-binary}
use Rattle.tape.specs.Tape.{Tape, track, Run, run, Longer, Grown}
use Rattle.replay.specs.Copies.{OfCartridge, CopyAt}
use Rattle.deck.specs.Measures.{closing_ones}
use Rattle.deck.specs.Deck.{copy_run}
use Rattle.deck.specs.Sending.{Carries, no_run, copy_sent, ones_sent}
use Rattle.deck.specs.Unspoiled.{AsSent}

byte_binary : (b : ℕ) → AllByRecursion Cell (byte_cells b)
unfolding byte_cells nibble_cells
byte_binary b = All-append Cell (bits 5 (get_or nibble_codes (b / 16) 0)) (bits 5 (get_or nibble_codes (b % 16) 0)) (bits-binary 5 (get_or nibble_codes (b / 16) 0)) (bits-binary 5 (get_or nibble_codes (b % 16) 0))

coded-binary : (bs : List ℕ) → AllByRecursion Cell (coded bs)
coded-binary [] = tt
coded-binary (b ∷ bs) = All-append Cell (byte_cells b) (coded bs) (byte_binary b) (coded-binary bs)

mark-binary : AllByRecursion Cell mark_cells
unfolding mark_cells
mark-binary = bits-binary 10 0b0010100101

marks-binary : (n : ℕ) → AllByRecursion Cell (concat (replicate n mark_cells))
marks-binary zero = tt
marks-binary (suc n) = All-append Cell mark_cells (concat (replicate n mark_cells)) mark-binary (marks-binary n)

data_binary : (x : Content) → AllByRecursion Cell (data_cells x)
unfolding mark_data
data_binary (Block bs) = coded-binary bs
data_binary Mark = marks-binary 512

body-binary : (t : ℕ) (i : Numbered) → AllByRecursion Cell (body t i)
unfolding body
body-binary t i = All-append Cell (data_cells i.content) (coded (address t i.number ++ two_bytes (item_crc t i))) (data_binary i.content) (coded-binary (address t i.number ++ two_bytes (item_crc t i)))

ones-binary : (n : ℕ) → AllByRecursion Cell (ones n)
unfolding ones
ones-binary n = go n
  where
    go : (n : ℕ) → AllByRecursion Cell (replicate n 1)
    go zero = tt
    go (suc n) = (lit< tt, go n)

marker-binary : AllByRecursion Cell marker
marker-binary = (lit< tt, (lit< tt, (lit< tt, (lit< tt, (lit< tt, (lit< tt, (lit< tt, (lit< tt, (lit< tt, (lit< tt, tt))))))))))

copy-binary : (p t : ℕ) (i : Numbered) → AllByRecursion Cell (copy p t i)
unfolding copy
copy-binary p t i = All-append Cell (ones p) (marker ++ (body t i ++ ones 5)) (ones-binary p) (All-append Cell marker (body t i ++ ones 5) marker-binary (All-append Cell (body t i) (ones 5) (body-binary t i) (ones-binary 5)))

-- a run of cells that is taken as it was sent
still_cells : (c m : Tape) (r : Run) (l : Longer r c m) → l.added ≡ r.sent → AllByRecursion Cell r.sent → OfCartridge c → OfCartridge m
still_cells c m r l e a k = record { few = omega (arith, k.few, l.tracks); binary = cells }
  where
    cells : (t : ℕ) → AllByRecursion Cell (track m t)
    cells t = ⊎_elim
        (λ (q : t ≡ r.on). subst (AllByRecursion Cell) (sym (ap (track m) q ∙ (l.is ∙ ap (λ (z : List ℕ). track c r.on ++ z) e))) (All-append Cell (track c r.on) r.sent (k.binary r.on) a))
        (λ q. subst (AllByRecursion Cell) (sym (l.others t q)) (k.binary t))
        (cases_eq t r.on)

pub carried_cells : (first : Bool) (c e : Tape) (rs : List Run) (fs : List CopyAt) → Carries first c rs fs → (g : Grown c rs e) → AsSent rs c e g → OfCartridge c → OfCartridge e
carried_cells first c e rs fs no_run g a k = subst OfCartridge (sym g) k
carried_cells first c e rs fs (copy_sent {rs = runs} {fs = more} f p q at then) (m, l, g) a k = carried_cells first m e runs more (then m l) g a.1 (still_cells c m (copy_run p f) l a.0 (copy-binary (preamble_ones p) f.place.on f.item) k)
carried_cells first c e rs fs (ones_sent {rs = runs} t then) (m, l, g) a k = carried_cells first m e runs fs (then m l) g a.1 (still_cells c m (run t (ones closing_ones)) l a.0 (ones-binary closing_ones) k)
