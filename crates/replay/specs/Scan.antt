-- Reading a tape: all its openings in tape order with what stands after each, the sound copies among them, and whether one stands at a place.
use Rattle.std.specs.Prelude.{ℕ, zero, suc, ◌-◌, Bool, true, false, cond, ◌&&◌, List, [], ◌∷◌, ◌++◌, length, take, drop, Ok, Err, Result, ◌==◌, nat_le}
use Rattle.std.specs.List.{flat_map}
use Rattle.std.specs.Str.{bytes_eq}
use Rattle.qic24.specs.Copy.{Numbered}
use Rattle.qic24.specs.Decode.{decoded}
use Rattle.qic24.specs.Opening.{opening}
use Rattle.qic24.specs.declared.fault.CopyFault.{CopyFault}
use Rattle.qic24.specs.declared.item.Content.{Content}
use Rattle.qic24.specs.declared.item.Content.TheVariants.{Block, Mark}
use Rattle.tape.specs.Tape.{Tape, track}
use Rattle.replay.specs.Copies.{TapePlace, place_on, CopyAt, placed}

-- whether an opening ends right before the place p of a track's cells
unfoldable pub opens_here : List ℕ → ℕ → Bool
opens_here c p = nat_le 14 p && bytes_eq (take 14 (drop (p - 14) c)) opening

-- what the cells from the place p on are read as, on the track t
unfoldable pub read_here : ℕ → List ℕ → ℕ → Result Numbered CopyFault
read_here t c p = decoded t (drop p c)

-- an opening: where the copy after it begins, and what that is read as
pub record OpeningAt : Type 0 where
  pub place : TapePlace
  pub reads : Result Numbered CopyFault

abbrev pub opening_here : ℕ → List ℕ → ℕ → OpeningAt
opening_here t c p = record { place = place_on t p; reads = read_here t c p }

-- the openings of a track at the n places from p on. Nothing is skipped, be the copy before sound or not
abbrev pub openings_among : ℕ → List ℕ → ℕ → ℕ → List OpeningAt
openings_among t c p zero = []
openings_among t c p (suc n) = cond (opens_here c p) (opening_here t c p ∷ openings_among t c (suc p) n) (openings_among t c (suc p) n)

-- the openings of a track from the place p on; the last place is the end of its cells
unfoldable pub track_openings : ℕ → List ℕ → ℕ → List OpeningAt
track_openings t c p = openings_among t c p (suc (length c) - p)

-- the openings of n tracks from the track t on
abbrev pub tracks_openings : Tape → ℕ → ℕ → List OpeningAt
tracks_openings c t zero = []
tracks_openings c t (suc n) = track_openings t (track c t) 0 ++ tracks_openings c (suc t) n

-- the openings of a tape from a place on, in tape order
unfoldable pub openings_from : Tape → TapePlace → List OpeningAt
openings_from c p = track_openings p.on (track c p.on) p.at ++ tracks_openings c (suc p.on) (length c - suc p.on)

-- the first place of a tape
abbrev pub tape_start : TapePlace
tape_start = place_on 0 0

-- the copy at a place, if it was read as one
abbrev pub copy_read : TapePlace → Result Numbered CopyFault → List CopyAt
copy_read p (Ok i) = placed p i ∷ []
copy_read p (Err e) = []

-- the copies among openings
abbrev pub copies_among : List OpeningAt → List CopyAt
copies_among os = flat_map (λ o. copy_read o.place o.reads) os

-- the sound copies of a tape, in tape order
abbrev pub sound_copies : Tape → List CopyAt
sound_copies c = copies_among (openings_from c tape_start)

-- both marks, or blocks of the same bytes
abbrev pub same_content : Content → Content → Bool
same_content (Block xs) (Block ys) = bytes_eq xs ys
same_content (Block xs) Mark = false
same_content Mark (Block ys) = false
same_content Mark Mark = true

-- the same number, and the same content
abbrev pub same_item : Numbered → Numbered → Bool
same_item i j = i.number == j.number && same_content i.content j.content

-- whether cells were read as this item
abbrev pub read_as : Numbered → Result Numbered CopyFault → Bool
read_as i (Ok j) = same_item j i
read_as i (Err e) = false

-- whether a sound copy of this item stands at this place
unfoldable pub stands : Tape → CopyAt → Bool
stands c f = opens_here (track c f.place.on) f.place.at && read_as f.item (read_here f.place.on (track c f.place.on) f.place.at)
