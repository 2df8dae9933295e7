-- The body of a proper item, as entries of the reading table.
use Rattle.std.proofs.Common.{◌≡◌, ℕ, zero, suc, ◌+◌, ◌<◌, ◌≤◌, false, List, [], ◌∷◌, ◌++◌, map, length, take, replicate, sym, refl, ap, ◌∙◌, arith, lit<}
use Rattle.std.specs.List.{AllByRecursion}
use Rattle.std.proofs.lemmas.List.{length-append, length-replicate}
use Rattle.std.proofs.ByRecursion.{All-weaker}
use Rattle.qic24.specs.Cells.{concat, mark_cells}
use Rattle.qic24.specs.Copy.{Numbered, Proper, ProperContent, body, coded, data_cells, mark_data, counted, mark_counts, address, two_bytes, item_crc}
use Rattle.qic24.specs.Decode.{marks_in, byte_of, mixed, content_in}
use Rattle.qic24.specs.declared.item.Content.{Content}
use Rattle.qic24.specs.declared.item.Content.TheVariants.{Block, Mark}
use Rattle.qic24.proofs.Register.{crc-below}
use Rattle.qic24.proofs.Entries.{entry-cells, byte_entry, mark-entry, spelled, spelled_append, group_number, plain_bytes, mark-bytes}

unfoldable pub mark_entries : List ℕ
mark_entries = replicate 512 256

-- the entries of the data
abbrev pub data_entries : Content → List ℕ
data_entries (Block bs) = bs
data_entries Mark = mark_entries

-- the bytes after the data
abbrev pub tail_bytes : ℕ → Numbered → List ℕ
tail_bytes t i = address t i.number ++ two_bytes (item_crc t i)

-- all entries of a body
abbrev pub entries : ℕ → Numbered → List ℕ
entries t i = data_entries i.content ++ tail_bytes t i

coded_spelled : (bs : List ℕ) → AllByRecursion (λ b. b < 256) bs → coded bs ≡ spelled bs
coded_spelled [] h = refl
coded_spelled (b ∷ bs) (h, hs) = ap (λ (z : List ℕ). z ++ coded bs) (sym (byte_entry b h)) ∙ ap (λ (z : List ℕ). entry-cells b ++ z) (coded_spelled bs hs)

marks_spelled : (n : ℕ) → concat (replicate n mark_cells) ≡ spelled (replicate n 256)
marks_spelled zero = refl
marks_spelled (suc n) = ap (λ (z : List ℕ). z ++ concat (replicate n mark_cells)) (sym mark-entry) ∙ ap (λ (z : List ℕ). entry-cells 256 ++ z) (marks_spelled n)

mark_data_spelled : mark_data ≡ spelled mark_entries
unfolding mark_data mark_entries
mark_data_spelled = marks_spelled 512

data_spelled : (x : Content) → ProperContent x → data_cells x ≡ spelled (data_entries x)
data_spelled (Block bs) h = coded_spelled bs h.1
data_spelled Mark h = mark_data_spelled

pub tail_small : (t : ℕ) (i : Numbered) → t < 256 → i.number ≤ 1048575 → AllByRecursion (λ b. b < 256) (tail_bytes t i)
tail_small t i h k =
    let c = crc-below (counted i.content ++ address t i.number) in
    (h, (omega arith, (omega arith, (omega arith, (omega arith, (omega arith, tt))))))

pub body_spelled : (t : ℕ) (i : Numbered) → t < 256 → Proper i → body t i ≡ spelled (entries t i)
unfolding body
body_spelled t i h p =
    ap (λ (z : List ℕ). z ++ coded (tail_bytes t i)) (data_spelled i.content p.content) ∙
    ap (λ (z : List ℕ). spelled (data_entries i.content) ++ z) (coded_spelled (tail_bytes t i) (tail_small t i h p.most)) ∙
    sym (spelled_append (data_entries i.content) (tail_bytes t i))

length-mark_entries : length mark_entries ≡ 512
unfolding mark_entries
length-mark_entries = length-replicate {A = ℕ} 512 256

pub length_data : (x : Content) → ProperContent x → length (data_entries x) ≡ 512
length_data (Block bs) h = h.0
length_data Mark h = length-mark_entries

pub length_entries : (t : ℕ) (i : Numbered) → ProperContent i.content → length (entries t i) ≡ 518
length_entries t i h = length-append (data_entries i.content) (tail_bytes t i) ∙ ap (λ n. n + 6) (length_data i.content h)

marks-small : (n : ℕ) → AllByRecursion (λ e. e < 257) (replicate n 256)
marks-small zero = tt
marks-small (suc n) = (lit< tt, marks-small n)

pub data_small : (x : Content) → ProperContent x → AllByRecursion (λ e. e < 257) (data_entries x)
unfolding mark_entries
data_small (Block bs) h = All-weaker (λ b. b < 256) (λ b. b < 257) (λ b k. omega arith) bs h.1
data_small Mark h = marks-small 512

-- the bytes of the data as the CRC counts them
pub data_counted : (x : Content) → ProperContent x → map byte_of (map group_number (data_entries x)) ≡ counted x
unfolding mark_entries mark_counts
data_counted (Block bs) h = (plain_bytes bs h.1).0
data_counted Mark h = (mark-bytes 512).0

-- how many of the data's entries are mark bytes
abbrev pub marks_of : Content → ℕ
marks_of (Block bs) = 0
marks_of Mark = 512

pub data_marks : (x : Content) → ProperContent x → marks_in (map group_number (data_entries x)) ≡ marks_of x
unfolding mark_entries
data_marks (Block bs) h = (plain_bytes bs h.1).1
data_marks Mark h = (mark-bytes 512).1

pub not-mixed : (x : Content) → mixed (marks_of x) ≡ false
not-mixed (Block bs) = refl
not-mixed Mark = refl

pub content_back : (x : Content) (bs : List ℕ) → take 512 bs ≡ counted x → content_in (marks_of x) bs ≡ x
content_back (Block xs) bs e = ap Block e
content_back Mark bs e = refl
