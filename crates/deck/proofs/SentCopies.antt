-- A copy that is taken as it was sent is sound.
use Rattle.std.proofs.Common.{◌≡◌, ℕ, ◌+◌, ◌-◌, ◌≤◌, Bool, List, ◌++◌, length, take, drop, replicate, sym, ap, ◌∙◌, subst, append_assoc, arith, length-append, take_at, drop_at}
use lib.ListN.{replicate-append-replicate}
use Rattle.qic24.specs.Copy.{Numbered, Proper, body, marker, ones, copy, preamble_ones}
use Rattle.qic24.specs.Opening.{opening, SoundAt}
use Rattle.qic24.specs.declared.layout.Preamble.{Preamble}
use Rattle.qic24.specs.declared.layout.Preamble.TheVariants.{Normal, Elongated, Long}
use Rattle.tape.specs.Tape.{Tape, track, Run, Longer, Grown}
use Rattle.replay.specs.Copies.{CopyAt, In, here, there, Sound}
use Rattle.replay.proofs.Growing.{grown_extends, sound_same}
use Rattle.replay.proofs.Orders.{split}
use Rattle.deck.specs.Measures.{marker_cells, copy_head}
use Rattle.deck.specs.Deck.{copy_run}
use Rattle.deck.specs.Sending.{Carries, no_run, copy_sent, ones_sent}
use Rattle.deck.specs.Unspoiled.{AsSent}
use Rattle.deck.proofs.CopyLengths.{full, length-body, length-ones, sound-whole}

-- the last four ones of a preamble and the marker are the opening
pub opened : (q t : ℕ) (i : Numbered) → copy (q + 4) t i ≡ ones q ++ (opening ++ (body t i ++ ones 5))
unfolding copy ones
opened q t i =
    ap (λ (z : List ℕ). z ++ (marker ++ (body t i ++ replicate 5 1))) (sym (replicate-append-replicate {A = ℕ} q 4 1)) ∙
    append_assoc (replicate q 1) (replicate 4 1) (marker ++ (body t i ++ replicate 5 1))

pub sound-sent : (x : List ℕ) (p t : ℕ) (i : Numbered) → 4 ≤ p → Proper i → SoundAt t (x ++ copy p t i) (length x + (p + marker_cells)) i
sound-sent x p t i h r =
    let q : ℕ = p - 4 in
    let at : p ≡ q + 4 = omega arith in
    let front : List ℕ = x ++ ones q in
    let rest : List ℕ = body t i ++ ones 5 in
    let cells : x ++ copy p t i ≡ front ++ (opening ++ rest) = ap (λ (n : ℕ). x ++ copy n t i) at ∙ (ap (λ (z : List ℕ). x ++ z) (opened q t i) ∙ sym (append_assoc x (ones q) (opening ++ rest))) in
    let size : length front ≡ length x + (p + marker_cells) - 14 = length-append x (ones q) ∙ omega (arith, length-ones q) in
    let further : length (front ++ opening) ≡ length x + (p + marker_cells) = length-append front opening ∙ omega arith in
    subst (λ (z : List ℕ). SoundAt t z (length x + (p + marker_cells)) i) (sym cells)
    (record {
      opens = (omega arith, ap (take 14) (drop_at front (opening ++ rest) (length x + (p + marker_cells) - 14) size));
      proper = r;
      reads =
          ap (λ (z : List ℕ). take 5180 (drop (length x + (p + marker_cells)) z)) (sym (append_assoc front opening rest)) ∙
          (ap (take 5180) (drop_at (front ++ opening) rest (length x + (p + marker_cells)) further) ∙ take_at (body t i) (ones 5) 5180 (length-body t i (full i.content r.content)));
    })

pub ones-enough : (p : Preamble) → 4 ≤ preamble_ones p
ones-enough Normal = omega arith
ones-enough Elongated = omega arith
ones-enough Long = omega arith

-- a copy right after it was taken as sent
pub sound_one : (c m : Tape) (f : CopyAt) (p : Preamble) (l : Longer (copy_run p f) c m) → l.added ≡ (copy_run p f).sent → f.place.at ≡ length (track c f.place.on) + copy_head p → Proper f.item → Sound m f
sound_one c m f p l e at r =
    subst (λ (z : List ℕ). SoundAt f.place.on z f.place.at f.item) (sym (l.is ∙ ap (λ (z : List ℕ). track c f.place.on ++ z) e))
    (subst (λ (n : ℕ). SoundAt f.place.on (track c f.place.on ++ copy (preamble_ones p) f.place.on f.item) n f.item) (sym at) (sound-sent (track c f.place.on) (preamble_ones p) f.place.on f.item (ones-enough p) r))

-- what runs carry is sound where nothing is spoiled
pub carried_sound : (first : Bool) (c e : Tape) (rs : List Run) (fs : List CopyAt) → Carries first c rs fs → (g : Grown c rs e) → AsSent rs c e g → ((f : CopyAt) → In f fs → Proper f.item) → (f : CopyAt) → In f fs → Sound e f
carried_sound first c e rs fs no_run g a r f i = elim i [ ]
carried_sound first c e rs fs (copy_sent {rs = runs} {fs = more} k p q at then) (m, l, g) a r f i =
    let s : Sound m k = sound_one c m k p l a.0 at (r k here) in
    split f k more i (λ z. subst (Sound e) (sym z) ((sound_same m e k (grown_extends runs m e g) (sound-whole m k s)).1 s))
    (carried_sound first m e runs more (then m l) g a.1 (λ x j. r x (there j)) f)
carried_sound first c e rs fs (ones_sent {rs = runs} t then) (m, l, g) a r f i = carried_sound first m e runs fs (then m l) g a.1 r f i
