-- The cells of a copy as they are sent.
use Rattle.std.proofs.Common.{◌≡◌, ℕ, zero, suc, ◌+◌, ◌/◌, ◌%◌, ◌<◌, ◌≤◌, List, [], ◌∷◌, ◌++◌, map, length, get_or, take, replicate, Ok, Result, sym, ap, ◌∙◌, arith, lit<, MatchResult}
use Rattle.std.specs.List.{AllByRecursion}
use Rattle.std.proofs.ByRecursion.{All-append}
use Rattle.std.proofs.lemmas.List.{take_at}
use Rattle.std.proofs.lemmas.Result.{MatchResult-at_ok}
use Rattle.qic24.specs.Cells.{concat, bits, Cell, nibble_codes, nibble_cells, byte_cells, mark_cells}
use Rattle.qic24.specs.Copy.{Numbered, coded, mark_data, data_cells, address, two_bytes, item_crc, body, marker, ones, copy}
use Rattle.qic24.specs.declared.item.Content.{Content}
use Rattle.qic24.specs.declared.item.Content.TheVariants.{Block, Mark}
use Rattle.qic24.proofs.Binary.{bits-binary, length-coded}
use Rattle.tape.specs.Tape.{cell}
use Rattle.tape.specs.Calls.{append_answer}
use Rattle.tape.specs.Tape.{Tape, track}
use Rattle.tape.specs.declared.refusal.Refusal.{Refusal}
use Rattle.tape.proofs.Replies.{accepted}
use Rattle.tape.proofs.Tapes.{cells_are}
use Rattle.deck.proofs.CopyLengths.{Full}

byte_binary : (b : ℕ) → AllByRecursion Cell (byte_cells b)
unfolding byte_cells nibble_cells
byte_binary b = All-append Cell (bits 5 (get_or nibble_codes (b / 16) 0)) (bits 5 (get_or nibble_codes (b % 16) 0)) (bits-binary 5 (get_or nibble_codes (b / 16) 0)) (bits-binary 5 (get_or nibble_codes (b % 16) 0))

coded-binary : (bs : List ℕ) → AllByRecursion Cell (coded bs)
coded-binary [] = tt
coded-binary (b ∷ bs) = All-append Cell (byte_cells b) (coded bs) (byte_binary b) (coded-binary bs)

marks-binary : (n : ℕ) → AllByRecursion Cell (concat (replicate n mark_cells))
unfolding mark_cells
marks-binary zero = tt
marks-binary (suc n) = All-append Cell mark_cells (concat (replicate n mark_cells)) (bits-binary 10 0b0010100101) (marks-binary n)

data_binary : (x : Content) → AllByRecursion Cell (data_cells x)
unfolding mark_data
data_binary (Block bs) = coded-binary bs
data_binary Mark = marks-binary 512

body-binary : (t : ℕ) (i : Numbered) → AllByRecursion Cell (body t i)
unfolding body
body-binary t i = All-append Cell (data_cells i.content) (coded (address t i.number ++ two_bytes (item_crc t i))) (data_binary i.content) (coded-binary (address t i.number ++ two_bytes (item_crc t i)))

ones-binary : (n : ℕ) → AllByRecursion Cell (ones n)
unfolding ones
ones-binary zero = tt
ones-binary (suc n) = (lit< tt, ones-binary n)

copy-binary : (p t : ℕ) (i : Numbered) → AllByRecursion Cell (copy p t i)
unfolding copy
copy-binary p t i =
    let one : 1 < 2 = lit< tt in
    let nought : 0 < 2 = lit< tt in
    All-append Cell (ones p) (marker ++ (body t i ++ ones 5)) (ones-binary p)
    (All-append Cell marker (body t i ++ ones 5) (one, (one, (one, (one, (one, (nought, (nought, (one, (one, (one, tt))))))))))
    (All-append Cell (body t i) (ones 5) (body-binary t i) (ones-binary 5)))

-- the front of a buffer that holds a copy
pub sent-copy : (p t n : ℕ) (i : Numbered) (rest buffer : List ℕ) → n ≡ length (copy p t i) → buffer ≡ copy p t i ++ rest → map cell (take n buffer) ≡ copy p t i
sent-copy p t n i rest buffer e is = ap (λ (x : List ℕ). map cell (take n x)) is ∙ (ap (map cell) (take_at (copy p t i) rest n (sym e)) ∙ cells_are (copy p t i) (copy-binary p t i))

pub sent-ones : (n : ℕ) → map cell (replicate n 1) ≡ ones n
unfolding ones
sent-ones n = cells_are (replicate n 1) (ones-binary n)

-- an append that has its track and its room is taken
pub taken : (c : Tape) (room t n : ℕ) (r : Result (Unit {0}) Refusal) (P : Unit {0} → Type 0) (Q : Refusal → Type 0) → t < length c → length (track c t) + n ≤ room → r ≡ append_answer c room t n → MatchResult r P Q → P tt
taken c room t n r P Q h k e p = MatchResult-at_ok P Q tt (e ∙ sym (accepted t (length c) (length (track c t) + n) room (Ok tt) _ _ h k)) p

-- content with all its data cells
pub whole_full : (x : Content) → length (data_cells x) ≡ 5120 → Full x
whole_full (Block bs) e = omega (arith, length-coded bs)
whole_full Mark e = tt
