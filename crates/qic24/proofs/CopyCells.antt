-- What a copy is made of are cells.
use Rattle.std.proofs.Common.{ℕ, zero, suc, List, [], ◌∷◌, ◌++◌, get_or, ◌/◌, ◌%◌, lit<}
use Rattle.std.specs.List.{AllByRecursion}
use Rattle.std.proofs.ByRecursion.{All-append}
use Rattle.qic24.specs.Cells.{Cell, nibble_codes, nibble_cells, byte_cells, mark_cells}
use Rattle.qic24.specs.Copy.{Numbered, coded, mark_data, data_cells, address, two_bytes, item_crc, body, marker, ones, copy}
use Rattle.qic24.specs.declared.item.Content.{Content}
use Rattle.qic24.specs.declared.item.Content.TheVariants.{Block, Mark}
use Rattle.qic24.proofs.Binary.{bits-binary, marks}

pub byte_binary : (b : ℕ) → AllByRecursion Cell (byte_cells b)
unfolding byte_cells nibble_cells
byte_binary b = All-append Cell (nibble_cells (b / 16)) (nibble_cells (b % 16)) (bits-binary 5 (get_or nibble_codes (b / 16) 0)) (bits-binary 5 (get_or nibble_codes (b % 16) 0))

pub coded-binary : (bs : List ℕ) → AllByRecursion Cell (coded bs)
coded-binary [] = tt
coded-binary (b ∷ bs) = All-append Cell (byte_cells b) (coded bs) (byte_binary b) (coded-binary bs)

pub marks-binary : (n : ℕ) → AllByRecursion Cell (marks n)
unfolding mark_cells
marks-binary zero = tt
marks-binary (suc n) = All-append Cell mark_cells (marks n) (bits-binary 10 0b0010100101) (marks-binary n)

pub data_binary : (x : Content) → AllByRecursion Cell (data_cells x)
unfolding mark_data
data_binary (Block bs) = coded-binary bs
data_binary Mark = marks-binary 512

pub body-binary : (t : ℕ) (i : Numbered) → AllByRecursion Cell (body t i)
unfolding body
body-binary t i =
    let rest : List ℕ = address t i.number ++ two_bytes (item_crc t i) in
    All-append Cell (data_cells i.content) (coded rest) (data_binary i.content) (coded-binary rest)

pub ones-binary : (n : ℕ) → AllByRecursion Cell (ones n)
unfolding ones
ones-binary zero = tt
ones-binary (suc n) = (lit< tt, ones-binary n)

marker-binary : AllByRecursion Cell marker
marker-binary = (lit< tt, (lit< tt, (lit< tt, (lit< tt, (lit< tt, (lit< tt, (lit< tt, (lit< tt, (lit< tt, (lit< tt, tt))))))))))

pub copy-binary : (p t : ℕ) (i : Numbered) → AllByRecursion Cell (copy p t i)
unfolding copy
copy-binary p t i =
    All-append Cell (ones p) (marker ++ (body t i ++ ones 5)) (ones-binary p)
    (All-append Cell marker (body t i ++ ones 5) marker-binary (All-append Cell (body t i) (ones 5) (body-binary t i) (ones-binary 5)))
