-- The recorded copy of an item: preamble, marker, data, address, CRC and postamble.
use Rattle.std.specs.Prelude.{◌≡◌, ℕ, ◌/◌, ◌%◌, ◌<◌, ◌≤◌, cond, ◌&&◌, List, [], ◌∷◌, ◌++◌, length, replicate, Some, None, Option, nat_le}
use Rattle.std.specs.List.{AllByRecursion}
use Rattle.qic24.specs.Crc.{crc}
unfoldable pub use Rattle.qic24.specs.Data.{mark_data}
pub use Rattle.qic24.specs.Data.{coded, data_cells}
use Rattle.qic24.specs.declared.item.Content.{Content}
use Rattle.qic24.specs.declared.item.Content.TheVariants.{Block, Mark}
use Rattle.qic24.specs.declared.item.Item.{Item}
use Rattle.qic24.specs.declared.layout.Preamble.{Preamble}
use Rattle.qic24.specs.declared.layout.Preamble.TheVariants.{Normal, Elongated, Long}

-- an item: a block or a mark, under a number
pub record Numbered : Type 0 where
  pub number : ℕ
  pub content : Content

-- 512 bytes, or a mark
abbrev pub ProperContent : Content → Type 0
ProperContent (Block bs) = (length bs ≡ 512) × AllByRecursion (λ b. b < 256) bs
ProperContent Mark = Unit {0}

-- what can be recorded: proper content under a number from 1 to 1,048,575
pub record Proper (i : Numbered) : Type 0 where
  pub content : ProperContent i.content
  pub least : 1 ≤ i.number
  pub most : i.number ≤ 1048575

-- what an item of the program holds
abbrev pub held : Item → Numbered
held i = record { number = i.number; content = i.content }

-- the item under a number, if an address can hold the number and it is not 0
abbrev pub item_from : ℕ → Content → Option Numbered
item_from n x = cond (nat_le 1 n && nat_le n 1048575) (Some (record { number = n; content = x })) None

-- how many ones the preamble has
abbrev pub preamble_ones : Preamble → ℕ
preamble_ones Normal = 120
preamble_ones Elongated = 3500
preamble_ones Long = 15000

-- a run of n ones. Like the other lists that are long at a numeral, it is shut
unfoldable pub ones : ℕ → List ℕ
ones n = replicate n 1

-- the marker: five ones, then 00111
abbrev pub marker : List ℕ
marker = 1 ∷ 1 ∷ 1 ∷ 1 ∷ 1 ∷ 0 ∷ 0 ∷ 1 ∷ 1 ∷ 1 ∷ []

-- a mark counts for the CRC as 512 bytes FF
unfoldable pub mark_counts : List ℕ
mark_counts = replicate 512 0xFF

-- the bytes that the CRC counts as data
abbrev pub counted : Content → List ℕ
counted (Block bs) = bs
counted Mark = mark_counts

-- the address: the track, then a control nibble 0 and the 20 bits of the number, high bits first
abbrev pub address : ℕ → ℕ → List ℕ
address t n = t ∷ n / 0x10000 ∷ (n / 0x100) % 0x100 ∷ n % 0x100 ∷ []

-- a number of 16 bits, high byte first
abbrev pub two_bytes : ℕ → List ℕ
two_bytes v = v / 0x100 ∷ v % 0x100 ∷ []

-- the CRC of an item on a track, over data and address
abbrev pub item_crc : ℕ → Numbered → ℕ
item_crc t i = crc (counted i.content ++ address t i.number)

-- the 5,180 cells after the marker: data, address, CRC
unfoldable pub body : ℕ → Numbered → List ℕ
body t i = data_cells i.content ++ coded (address t i.number ++ two_bytes (item_crc t i))

-- a whole copy: p ones, the marker, the body, five ones
unfoldable pub copy : ℕ → ℕ → Numbered → List ℕ
copy p t i = ones p ++ (marker ++ (body t i ++ ones 5))
