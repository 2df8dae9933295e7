-- What the cells after an opening are read as: an item, or the first cause why they are none.
use Rattle.std.specs.Prelude.{◌≡◌, ℕ, zero, suc, ◌+◌, ◌*◌, ◌/◌, ◌%◌, Bool, cond, not, ◌&&◌, ◌||◌, List, [], ◌∷◌, map, length, take, drop, Some, None, Ok, Err, Option, Result, ◌==◌, nat_le, nat_lt, slice_index}
use Rattle.std.specs.Result.{result_map_both}
use Rattle.std.specs.List.{position_or_len}
use Rattle.qic24.specs.Cells.{number_of, nibble_codes}
use Rattle.qic24.specs.Copy.{Numbered}
use Rattle.qic24.specs.Crc.{crc}
use Rattle.qic24.specs.declared.item.Content.{Content}
use Rattle.qic24.specs.declared.item.Content.TheVariants.{Block, Mark}
use Rattle.qic24.specs.declared.fault.CopyFault.{CopyFault}
use Rattle.qic24.specs.declared.fault.CopyFault.TheVariants.{TrackEnds, Group, Mixed, Check, OtherTrack, Control, NumberZero}
use Rattle.qic24.specs.declared.fault.GroupFault.{GroupFault}

-- where a number first stands in a list, or the list's length
abbrev pub position : List ℕ → ℕ → ℕ
position ns v = position_or_len (λ x. x == v) ns

-- two nibbles as a byte, or 257 where one of them is none
abbrev pub byte_from : ℕ → ℕ → ℕ
byte_from h l = cond (nat_lt h 16 && nat_lt l 16) (h * 16 + l) 257

-- what ten cells, as a number, read as: their byte, 256 for the mark byte, 257 for anything else
unfoldable pub entry : ℕ → ℕ
entry g = cond (g == 0b0010100101) 256 (byte_from (position nibble_codes (g / 32)) (position nibble_codes (g % 32)))

-- the first n groups of ten cells, each as a number
unfoldable pub groups : ℕ → List ℕ → List ℕ
groups zero c = []
groups (suc n) c = number_of (take 10 c) ∷ groups n (drop 10 c)

-- an entry that may not stand in the group k: no code, or a mark byte after the 512 groups of the data
abbrev pub no_code_at : ℕ → ℕ → Bool
no_code_at k e = e == 257 || (e == 256 && nat_le 512 k)

-- the fault of the group k, with its cells as a number
abbrev pub fault_at : ℕ → ℕ → GroupFault
fault_at k g = record { index = k; cells = g }

-- the first group that is no code where it stands; the first of the list is the group k
abbrev pub first_fault : ℕ → List ℕ → Option GroupFault
first_fault k [] = None
first_fault k (g ∷ gs) = cond (no_code_at k (entry g)) (Some (fault_at k g)) (first_fault (suc k) gs)

-- how many groups are mark bytes
abbrev pub marks_in : List ℕ → ℕ
marks_in [] = 0
marks_in (g ∷ gs) = cond (entry g == 256) 1 0 + marks_in gs

-- the byte of a group; a mark byte counts as FF
abbrev pub byte_of : ℕ → ℕ
byte_of g = cond (entry g == 256) 0xFF (entry g)

-- groups that are all codes where they stand, their bytes, and how many are mark bytes
pub record GroupsAre (gs bs : List ℕ) (m : ℕ) : Type 0 where
  pub codes : first_fault 0 gs ≡ None
  pub bytes : bs ≡ map byte_of gs
  pub marks : m ≡ marks_in gs

-- mark bytes and others: neither none of the data's 512 bytes nor all of them
abbrev pub mixed : ℕ → Bool
mixed m = not (m == 0) && not (m == 512)

-- two bytes as a number, high byte first
abbrev pub word_at : List ℕ → ℕ → ℕ
word_at bs k = slice_index bs k * 0x100 + slice_index bs (suc k)

-- the 20-bit number in the address
abbrev pub number_in : List ℕ → ℕ
number_in bs = slice_index bs 513 % 16 * 0x10000 + word_at bs 514

-- 512 mark bytes are a mark, none is a block
abbrev pub content_in : ℕ → List ℕ → Content
content_in m bs = cond (m == 0) (Block (take 512 bs)) Mark

-- an answer with its item as what the item holds
abbrev pub mapped_ok : {A B E : Type 0} → (A → B) → Result A E → Result B E
mapped_ok f r = result_map_both f (λ e. e) r

-- 518 bytes, m of them mark bytes: data, address and CRC
abbrev pub judged : ℕ → ℕ → List ℕ → Result Numbered CopyFault
judged t m bs =
    cond (mixed m) (Err Mixed)
    (cond (not (crc (take 516 bs) == word_at bs 516)) (Err Check)
    (cond (not (slice_index bs 512 == t)) (Err (OtherTrack (slice_index bs 512)))
    (cond (not (slice_index bs 513 / 16 == 0)) (Err (Control (slice_index bs 513 / 16)))
    (cond (number_in bs == 0) (Err NumberZero)
    (Ok (record { number = number_in bs; content = content_in m bs }))))))

-- the first fault of a group, or else what its bytes say
abbrev pub by_groups : ℕ → List ℕ → Option GroupFault → Result Numbered CopyFault
by_groups t gs (Some f) = Err (Group f)
by_groups t gs None = judged t (marks_in gs) (map byte_of gs)

-- the cells after an opening on the track t
abbrev pub decoded : ℕ → List ℕ → Result Numbered CopyFault
decoded t c = cond (nat_lt (length c) 5180) (Err TrackEnds) (by_groups t (groups 518 c) (first_fault 0 (groups 518 c)))
