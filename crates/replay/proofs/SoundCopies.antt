-- Reading lists exactly the sound copies of a tape, and judges each rightly.
use Rattle.std.proofs.Common.{◌≡◌, ℕ, ◌+◌, ◌<◌, ◌≤◌, true, eqb, List, [], ◌∷◌, ◌++◌, length, drop, Ok, Err, Decides, Result, sym, refl, ap, ◌∙◌, subst, inl, inr, ⊎_elim, arith}
use Rattle.std.specs.List.{AllByRecursion}
use Rattle.std.proofs.lemmas.Slice.Eq.{bytes_eq-Decides}
use Rattle.std.proofs.ByRecursion.{All-drop}
use Rattle.std.proofs.lemmas.Bool.{cases_lt, cases_eq, cases_order, false≢true, and_parts, and_from}
use Rattle.std.proofs.lemmas.Bool.Decides.{Decides-and, Decides-eqb, Decides-like}
use Rattle.qic24.specs.Copy.{Numbered}
use Rattle.qic24.specs.Opening.{Opens, SoundAt}
use Rattle.qic24.specs.declared.fault.CopyFault.{CopyFault}
use Rattle.qic24.specs.declared.item.Content.{Content}
use Rattle.qic24.specs.declared.item.Content.TheVariants.{Block, Mark}
use Rattle.qic24.proofs.Promises.{reads_exactly, same_cells-same_item}
use Rattle.qic24.proofs.Runs.{no_opening-inside}
use Rattle.tape.specs.Tape.{Tape, track, Cell}
use Rattle.replay.specs.Copies.{body_cells, OfCartridge, TapePlace, place_on, CopyAt, placed, Sound, Before, AtOrAfter, Ascending, In, here, there}
use Rattle.replay.specs.Laws.{ListsSoundCopies, OneList, StandsExactly, NeverOverlap}
use Rattle.replay.specs.Scan.{opens_here, read_here, OpeningAt, openings_from, tape_start, copy_read, copies_among, same_content, same_item, read_as, stands}
use Rattle.replay.proofs.Orders.{split, same, in_right, before-all_from}
use Rattle.replay.proofs.TapeOpenings.{opens_exactly, no_opening_gone, right-here, further}
use Rattle.replay.proofs.ListedOpenings.{listed-each, listed-all, Ordered, listed-ordered}

same_content_decides : (x y : Content) → Decides (same_content x y) (x ≡ y)
same_content_decides (Block xs) (Block ys) = (λ e. ap Block ((bytes_eq-Decides xs ys).0 e), λ e. (bytes_eq-Decides xs ys).1 (cc))
same_content_decides (Block xs) Mark = (λ e. absurd (false≢true e), λ e. let z : ◌≡◌ {A = ℕ} 0 1 = cc in absurd (omega arith))
same_content_decides Mark (Block ys) = (λ e. absurd (false≢true e), λ e. let z : ◌≡◌ {A = ℕ} 0 1 = cc in absurd (omega arith))
same_content_decides Mark Mark = (λ e. refl, λ e. refl)

same_item_decides : (i j : Numbered) → Decides (same_item i j) (i ≡ j)
same_item_decides i j =
    Decides-like (same_item i j)
    (λ h. ap (λ (n : ℕ). record { number = n; content = i.content }) h.0 ∙ ap (λ (x : Content). record { number = j.number; content = x }) h.1)
    (λ e. (ap (λ (k : Numbered). k.number) e, ap (λ (k : Numbered). k.content) e))
    (Decides-and (eqb i.number j.number) (same_content i.content j.content) (Decides-eqb i.number j.number) (same_content_decides i.content j.content))

read_as_decides : (i : Numbered) (r : Result Numbered CopyFault) → Decides (read_as i r) (r ≡ Ok i)
read_as_decides i (Ok j) = (λ e. ap Ok ((same_item_decides j i).0 e), λ e. (same_item_decides j i).1 (cc))
read_as_decides i (Err f) = (λ e. absurd (false≢true e), λ e. let z : ◌≡◌ {A = ℕ} 0 1 = cc in absurd (omega arith))

-- on a track below 256 an opening before cells that are read as an item is a sound copy of it
pub sound-read : (t : ℕ) (c : List ℕ) (p : ℕ) (i : Numbered) → t < 256 → AllByRecursion Cell c → Opens c p → read_here t c p ≡ Ok i → SoundAt t c p i
unfolding read_here
sound-read t c p i h b o e = let r = (reads_exactly t (drop p c) i h (All-drop Cell p c b)).0 e in record { opens = o; proper = r.0; reads = r.1 }

pub read-sound : (t : ℕ) (c : List ℕ) (p : ℕ) (i : Numbered) → t < 256 → AllByRecursion Cell c → SoundAt t c p i → read_here t c p ≡ Ok i
unfolding read_here
read-sound t c p i h b s = (reads_exactly t (drop p c) i h (All-drop Cell p c b)).1 (s.proper, s.reads)

-- a track with an opening is one of the cartridge's
pub track-there : (c : Tape) → OfCartridge c → (t p : ℕ) → Opens (track c t) p → (t < length c) × (t < 256)
track-there c k t p o = ⊎_elim (λ (h : t < length c). (h, omega (arith, k.few))) (λ (h : length c ≤ t). absurd (no_opening_gone c t h p o)) (cases_lt t (length c))

pub stands_exactly : StandsExactly
unfolding stands
stands_exactly c k f = (to, from)
  where
    to : stands c f ≡ true → Sound c f
    to e =
        let w = and_parts (opens_here (track c f.place.on) f.place.at) (read_as f.item (read_here f.place.on (track c f.place.on) f.place.at)) e in
        let o = (opens_exactly (track c f.place.on) f.place.at).0 w.0 in
        let l = track-there c k f.place.on f.place.at o in
        sound-read f.place.on (track c f.place.on) f.place.at f.item l.1 (k.binary f.place.on) o ((read_as_decides f.item (read_here f.place.on (track c f.place.on) f.place.at)).0 w.1)

    from : Sound c f → stands c f ≡ true
    from s =
        let l = track-there c k f.place.on f.place.at s.opens in
        and_from (opens_here (track c f.place.on) f.place.at) (read_as f.item (read_here f.place.on (track c f.place.on) f.place.at))
        ((opens_exactly (track c f.place.on) f.place.at).1 s.opens)
        ((read_as_decides f.item (read_here f.place.on (track c f.place.on) f.place.at)).1 (read-sound f.place.on (track c f.place.on) f.place.at f.item l.1 (k.binary f.place.on) s))

-- an opening by its parts
abbrev pub opening_of : TapePlace → Result Numbered CopyFault → OpeningAt
opening_of p x = record { place = p; reads = x }

-- the copies among openings are those that were read
copies_each : (os : List OpeningAt) (f : CopyAt) → In f (copies_among os) → In (opening_of f.place (Ok f.item)) os
copies_each [] f i = elim i [ ]
copies_each (o ∷ os) f i = go o.reads i (copies_each os f)
  where
    go : (x : Result Numbered CopyFault) → In f (copy_read o.place x ++ copies_among os) → (In f (copies_among os) → In (opening_of f.place (Ok f.item)) os) → In (opening_of f.place (Ok f.item)) (opening_of o.place x ∷ os)
    go (Ok i) j ih = split f (placed o.place i) (copies_among os) j (λ q. subst (λ (g : CopyAt). In (opening_of g.place (Ok g.item)) (opening_of o.place (Ok i) ∷ os)) (sym q) here) (λ k. there (ih k))
    go (Err e) j ih = there (ih j)

copies_all : (os : List OpeningAt) (f : CopyAt) → In (opening_of f.place (Ok f.item)) os → In f (copies_among os)
copies_all [] f i = elim i [ ]
copies_all (o ∷ os) f i = split (opening_of f.place (Ok f.item)) o os i
    (λ q. subst (λ (x : OpeningAt). In f (copy_read x.place x.reads ++ copies_among os)) q here)
    (λ j. in_right f (copy_read o.place o.reads) (copies_among os) (copies_all os f j))

copies_ascending : (os : List OpeningAt) → Ordered os → Ascending (copies_among os)
copies_ascending [] h = tt
copies_ascending (o ∷ os) h = go o.reads (λ g j. h o os right-here (opening_of g.place (Ok g.item)) (copies_each os g j)) (copies_ascending os (λ x rest g. h x rest (further g)))
  where
    go : (x : Result Numbered CopyFault) → ((g : CopyAt) → In g (copies_among os) → Before o.place g.place) → Ascending (copies_among os) → Ascending (copy_read o.place x ++ copies_among os)
    go (Ok i) b a = (before-all_from (placed o.place i) (copies_among os) b, a)
    go (Err e) b a = a

-- every place comes at or after the first
pub from_tape_start : (p : TapePlace) → AtOrAfter tape_start p
from_tape_start p = ⊎_elim (λ (l : 0 < p.on). inl l) (λ (l : p.on ≤ 0). inr (omega arith, omega arith)) (cases_lt 0 p.on)

-- the copies that are read from a place on are the sound ones there
pub read-each : (c : Tape) → OfCartridge c → (p : TapePlace) (f : CopyAt) → In (opening_of f.place (Ok f.item)) (openings_from c p) → Sound c f × AtOrAfter p f.place
read-each c k p f i =
    let w = listed-each c p (opening_of f.place (Ok f.item)) i in
    (sound-read f.place.on (track c f.place.on) f.place.at f.item (track-there c k f.place.on f.place.at w.opens).1 (k.binary f.place.on) w.opens (sym w.reads), w.past)

pub read_all : (c : Tape) → OfCartridge c → (p : TapePlace) (f : CopyAt) → Sound c f → AtOrAfter p f.place → In (opening_of f.place (Ok f.item)) (openings_from c p)
read_all c k p f s l =
    subst (λ (x : Result Numbered CopyFault). In (opening_of f.place x) (openings_from c p))
    (read-sound f.place.on (track c f.place.on) f.place.at f.item (track-there c k f.place.on f.place.at s.opens).1 (k.binary f.place.on) s)
    (listed-all c p f.place.on f.place.at s.opens l)

pub lists_sound_copies : ListsSoundCopies
lists_sound_copies c k = record {
  ordered = copies_ascending (openings_from c tape_start) (listed-ordered c tape_start);
  each = λ f i. (read-each c k tape_start f (copies_each (openings_from c tape_start) f i)).0;
  all = λ f s. copies_all (openings_from c tape_start) f (read_all c k tape_start f s (from_tape_start f.place));
}

-- there is one such list
pub one_list : OneList
one_list c fs gs a b = same fs gs a.ordered b.ordered (λ f i. b.all f (a.each f i)) (λ f i. a.all f (b.each f i))

-- a sound copy that begins after another one begins after its end
clear_after : (c : Tape) → OfCartridge c → (f g : CopyAt) → Sound c f → Sound c g → f.place.on ≡ g.place.on → f.place.at < g.place.at → f.place.at + body_cells ≤ g.place.at
clear_after c k f g s r e l = ⊎_elim
    (λ (h : g.place.at < f.place.at + body_cells). absurd (no_opening-inside f.place.on (track c f.place.on) f.place.at f.item (track-there c k f.place.on f.place.at s.opens).1 s g.place.at l (omega arith)
    (subst (λ (u : ℕ). Opens (track c u) g.place.at) (sym e) r.opens)))
    (λ h. h)
    (cases_lt g.place.at (f.place.at + body_cells))

-- two sound copies at one place are one
one_there : (c : Tape) → OfCartridge c → (f g : CopyAt) → Sound c f → Sound c g → f.place.on ≡ g.place.on → f.place.at ≡ g.place.at → f ≡ g
one_there c k f g s r e q =
    let l = (track-there c k f.place.on f.place.at s.opens).1 in
    let r₁ : SoundAt f.place.on (track c f.place.on) g.place.at g.item = subst (λ (u : ℕ). SoundAt u (track c u) g.place.at g.item) (sym e) r in
    let r₂ : SoundAt f.place.on (track c f.place.on) f.place.at g.item = subst (λ (p : ℕ). SoundAt f.place.on (track c f.place.on) p g.item) (sym q) r₁ in
    let i : f.item ≡ g.item = same_cells-same_item f.place.on f.item g.item l s.proper r₂.proper (sym s.reads ∙ r₂.reads) in
    ap (λ (u : ℕ). placed (place_on u f.place.at) f.item) e ∙ (ap (λ (p : ℕ). placed (place_on g.place.on p) f.item) q ∙ ap (placed g.place) i)

pub never_overlap : NeverOverlap
never_overlap c k f g s r = ⊎_elim
    (λ (e : f.place.on ≡ g.place.on). ⊎_elim (λ (q : f.place.at ≡ g.place.at). inl (one_there c k f g s r e q))
    (λ w. ⊎_elim (λ (q : f.place.at < g.place.at). inr (inl (inr (clear_after c k f g s r e q)))) (λ (q : g.place.at < f.place.at). inr (inr (inr (clear_after c k g f r s (sym e) q)))) w)
    (cases_order f.place.at g.place.at))
    (λ (d : f.place.on ≡ g.place.on → ⊥). inr (inl (inl d)))
    (cases_eq f.place.on g.place.on)
