-- How many cells a copy has.
use Rattle.std.proofs.Common.{◌≡◌, ℕ, zero, suc, ◌+◌, ◌*◌, List, [], ◌∷◌, ◌++◌, length, take, drop, replicate, refl, ap, ◌∙◌, arith, length-append, length-drop, length-take}
use lib.ListN.{length-replicate}
use Rattle.qic24.specs.Cells.{concat, bits, nibble_cells, byte_cells, mark_cells}
use Rattle.qic24.specs.Copy.{Numbered, ProperContent, coded, mark_data, data_cells, address, two_bytes, item_crc, body, marker, ones, copy}
use Rattle.qic24.specs.declared.item.Content.{Content}
use Rattle.qic24.specs.declared.item.Content.TheVariants.{Block, Mark}
use Rattle.tape.specs.Tape.{Tape, track}
use Rattle.deck.specs.Measures.{marker_cells, copy_tail}
use Rattle.replay.specs.Copies.{body_cells, CopyAt, Sound, Whole}

-- a mark, or a block of 512 bytes
abbrev pub Full : Content → Type 0
Full (Block bs) = length bs ≡ 512
Full Mark = Unit {0}

pub full : (x : Content) → ProperContent x → Full x
full (Block bs) p = p.0
full Mark p = tt

length_byte : (b : ℕ) → length (byte_cells b) ≡ 10
unfolding byte_cells nibble_cells bits
length_byte b = refl

length-mark : length mark_cells ≡ 10
unfolding mark_cells bits
length-mark = refl

length_bytes : (bs : List ℕ) → length (coded bs) ≡ length bs * 10
length_bytes [] = refl
length_bytes (b ∷ bs) = length-append (byte_cells b) (coded bs) ∙ omega (arith, length_byte b, length_bytes bs)

length-marks : (n : ℕ) → length (concat (replicate n mark_cells)) ≡ n * 10
length-marks zero = refl
length-marks (suc n) = length-append mark_cells (concat (replicate n mark_cells)) ∙ omega (arith, length-mark, length-marks n)

length_data : (x : Content) → Full x → length (data_cells x) ≡ 5120
unfolding mark_data
length_data (Block bs) e = omega (arith, length_bytes bs)
length_data Mark e = length-marks 512

pub length-body : (t : ℕ) (i : Numbered) → Full i.content → length (body t i) ≡ body_cells
unfolding body
length-body t i e =
    let rest : List ℕ = address t i.number ++ two_bytes (item_crc t i) in
    length-append (data_cells i.content) (coded rest) ∙
    (ap (λ (n : ℕ). n + length (coded rest)) (length_data i.content e) ∙ ap (λ (n : ℕ). 5120 + n) (length_bytes rest))

pub length-copy : (p t : ℕ) (i : Numbered) → Full i.content → length (copy p t i) ≡ p + marker_cells + copy_tail
unfolding copy ones
length-copy p t i e =
    let a = length-append (replicate p 1) (marker ++ (body t i ++ replicate 5 1)) in
    let b = length-append marker (body t i ++ replicate 5 1) in
    let c = length-append (body t i) (replicate 5 1) in
    omega (arith, a, b, c, length-replicate {A = ℕ} p 1, length-body t i e)

pub length-ones : (n : ℕ) → length (ones n) ≡ n
unfolding ones
length-ones n = length-replicate {A = ℕ} n 1

-- a sound copy lies whole on its tape
pub sound-whole : (c : Tape) (f : CopyAt) → Sound c f → Whole c f
sound-whole c f s =
    let e : length (take body_cells (drop f.place.at (track c f.place.on))) ≡ body_cells = ap length s.reads ∙ length-body f.place.on f.item (full f.item.content s.proper.content) in
    omega (arith, e, length-take body_cells (drop f.place.at (track c f.place.on)), length-drop f.place.at (track c f.place.on))
