-- On a new cartridge that spoils nothing the sound copies are those that were put.
use Rattle.std.proofs.Common.{◌≡◌, ℕ, ◌+◌, ◌<◌, ◌≤◌, Bool, List, [], ◌∷◌, ◌++◌, length, sym, refl, ap, ◌∙◌, subst, inl, ⊎_elim, append_assoc, append-nil, arith}
use lib.ListN.{get_or-replicate, length-replicate}
use Rattle.std.specs.List.{AllByRecursion}
use Rattle.std.proofs.lemmas.List.{get_or_past, length-append}
use Rattle.std.proofs.lemmas.Bool.{cases_lt, cases_eq}
use Rattle.qic24.specs.Copy.{Proper, ones, copy, preamble_ones}
use Rattle.qic24.specs.Opening.{Opens}
use Rattle.qic24.specs.declared.layout.Preamble.{Preamble}
use Rattle.qic24.proofs.Openings.{opens_within}
use Rattle.tape.specs.Tape.{Tape, track, most_tracks, Cell, Run, run, Longer, Grown, blank}
use Rattle.replay.specs.Copies.{OfCartridge, CopyAt, In, here, there, Sound}
use Rattle.replay.specs.Scan.{stands}
use Rattle.replay.specs.Seeking.{tape_replay}
use Rattle.replay.proofs.Growing.{grown_extends, sound_same}
use Rattle.replay.proofs.Orders.{in_append, in_left, in_right}
use Rattle.replay.proofs.SoundCopies.{never_overlap}
use Rattle.deck.specs.Measures.{copy_head, closing_ones}
use Rattle.deck.specs.Calls.{AnsweredCall}
use Rattle.deck.specs.Deck.{DeckState, deck_idle, copy_run}
use Rattle.deck.specs.CallsMade.{outcome, Made, no_call, call_more}
use Rattle.deck.specs.Sending.{Carries, no_run, copy_sent, ones_sent}
use Rattle.deck.specs.Unspoiled.{AsSent, NoneSpoiled, AllOfBytes, OnlyWhatWasPut}
use Rattle.deck.proofs.CopyLengths.{length-ones, sound-whole}
use Rattle.deck.proofs.CarriedCopies.{carry}
use Rattle.deck.proofs.SentCopies.{ones-enough}
use Rattle.deck.proofs.SentOpenings.{EndsInOnes, opens_before, none_in_ones, opens-at-copy, copy-ends, ones-end}
use Rattle.deck.proofs.GoingWell.{GoesOnWell, goes_well}

-- a copy was put at this place of this track
abbrev PutAt : List CopyAt → ℕ → ℕ → Type 0
PutAt log t q = (f : CopyAt) × In f log × (f.place.on ≡ t) × (f.place.at ≡ q)

-- openings stand only where copies were put, and the cells of every track end in ones
pub record Only (c : Tape) (log : List CopyAt) : Type 0 where
  pub openings : (t q : ℕ) → Opens (track c t) q → PutAt log t q
  pub ends : (t : ℕ) → EndsInOnes (track c t)

only-copy : (c m : Tape) (log : List CopyAt) (f : CopyAt) (p : Preamble) (l : Longer (copy_run p f) c m) → l.added ≡ (copy_run p f).sent → f.place.at ≡ length (track c f.place.on) + copy_head p → Proper f.item → f.place.on < 256 → Only c log → Only m (log ++ (f ∷ []))
only-copy c m log f p l e at r small o = record { openings = opens; ends = ends }
  where
    u : ℕ
    u = f.place.on

    cells : track m f.place.on ≡ track c f.place.on ++ copy (preamble_ones p) f.place.on f.item
    cells = l.is ∙ ap (λ (z : List ℕ). track c f.place.on ++ z) e

    more : (t q : ℕ) → PutAt log t q → PutAt (log ++ (f ∷ [])) t q
    more t q (g, i, a, b) = (g, in_left g log (f ∷ []) i, a, b)

    here-opens : (q : ℕ) → Opens (track c f.place.on ++ copy (preamble_ones p) f.place.on f.item) q → PutAt (log ++ (f ∷ [])) f.place.on q
    here-opens q w = ⊎_elim
        (λ (k : length (track c f.place.on) < q). (f, in_right f log (f ∷ []) here, refl, at ∙ sym (opens-at-copy (track c f.place.on) (preamble_ones p) f.place.on f.item q (ones-enough p) small r (o.ends f.place.on) k w)))
        (λ (k : q ≤ length (track c f.place.on)). more f.place.on q (o.openings f.place.on q (opens_before q (track c f.place.on) (copy (preamble_ones p) f.place.on f.item) k w)))
        (cases_lt (length (track c f.place.on)) q)

    opens : (t q : ℕ) → Opens (track m t) q → PutAt (log ++ (f ∷ [])) t q
    opens t q w = ⊎_elim
        (λ (k : t ≡ f.place.on). subst (λ (v : ℕ). PutAt (log ++ (f ∷ [])) v q) (sym k) (here-opens q (subst (λ (z : List ℕ). Opens z q) (ap (track m) k ∙ cells) w)))
        (λ k. more t q (o.openings t q (subst (λ (z : List ℕ). Opens z q) (l.others t k) w)))
        (cases_eq t f.place.on)

    ends : (t : ℕ) → EndsInOnes (track m t)
    ends t = ⊎_elim
        (λ (k : t ≡ f.place.on). subst EndsInOnes (sym (ap (track m) k ∙ cells)) (copy-ends (track c f.place.on) (preamble_ones p) f.place.on f.item))
        (λ k. subst EndsInOnes (sym (l.others t k)) (o.ends t))
        (cases_eq t f.place.on)

only-ones : (c m : Tape) (log : List CopyAt) (t : ℕ) (l : Longer (run t (ones closing_ones)) c m) → l.added ≡ ones closing_ones → Only c log → Only m log
only-ones c m log t l e o = record { openings = opens; ends = ends }
  where
    cells : track m t ≡ track c t ++ ones closing_ones
    cells = l.is ∙ ap (λ (z : List ℕ). track c t ++ z) e

    here-opens : (q : ℕ) → Opens (track c t ++ ones closing_ones) q → PutAt log t q
    here-opens q w = ⊎_elim
        (λ (k : length (track c t) < q).
        let w' : Opens (track c t ++ (ones closing_ones ++ [])) q = subst (λ (z : List ℕ). Opens (track c t ++ z) q) (sym (append-nil (ones closing_ones))) w in
        absurd (none_in_ones (track c t) [] closing_ones q (o.ends t) k (omega (arith, opens_within (track c t ++ ones closing_ones) q w, length-append (track c t) (ones closing_ones), length-ones closing_ones)) w'))
        (λ (k : q ≤ length (track c t)). o.openings t q (opens_before q (track c t) (ones closing_ones) k w))
        (cases_lt (length (track c t)) q)

    opens : (v q : ℕ) → Opens (track m v) q → PutAt log v q
    opens v q w = ⊎_elim
        (λ (k : v ≡ t). subst (λ (y : ℕ). PutAt log y q) (sym k) (here-opens q (subst (λ (z : List ℕ). Opens z q) (ap (track m) k ∙ cells) w)))
        (λ k. o.openings v q (subst (λ (z : List ℕ). Opens z q) (l.others v k) w))
        (cases_eq v t)

    ends : (v : ℕ) → EndsInOnes (track m v)
    ends v = ⊎_elim (λ (k : v ≡ t). subst EndsInOnes (sym (ap (track m) k ∙ cells)) (ones-end (track c t) closing_ones (omega arith))) (λ k. subst EndsInOnes (sym (l.others v k)) (o.ends v)) (cases_eq v t)

only_carried : (first : Bool) (c e : Tape) (rs : List Run) (fs log : List CopyAt) → Carries first c rs fs → (g : Grown c rs e) → AsSent rs c e g → ((f : CopyAt) → In f fs → Proper f.item) → length c ≤ 9 → Only c log → Only e (log ++ fs)
only_carried first c e rs fs log no_run g a r few o = subst (λ (x : Tape). Only x (log ++ [])) (sym g) (subst (Only c) (sym (append-nil log)) o)
only_carried first c e rs fs log (copy_sent {rs = runs} {fs = more} k p q at then) (m, l, g) a r few o =
    subst (Only e) (append_assoc log (k ∷ []) more)
    (only_carried first m e runs more (log ++ (k ∷ [])) (then m l) g a.1 (λ x j. r x (there j)) (omega (arith, l.tracks)) (only-copy c m log k p l a.0 at (r k here) (omega (arith, l.there)) o))
only_carried first c e rs fs log (ones_sent {rs = runs} t then) (m, l, g) a r few o = only_carried first m e runs fs log (then m l) g a.1 r (omega (arith, l.tracks)) (only-ones c m log t l a.0 o)

-- so far
pub record SoFar (room : ℕ) (c : Tape) (s : DeckState) (log : List CopyAt) : Type 0 where
  pub going : GoesOnWell room c s
  pub only : Only c log
  pub sound : (f : CopyAt) → In f log → Sound c f

so_far : (room : ℕ) (c : Tape) (s : DeckState) (ds : List AnsweredCall) (log : List CopyAt) (e : Tape) (t : DeckState) (d : Made room c s ds log e t) → NoneSpoiled room c s ds log e t d → AllOfBytes ds → (old : List CopyAt) → SoFar room c s old → SoFar room e t (old ++ log)
so_far room c s ds log e t no_call n b old h = subst (SoFar room c s) (sym (append-nil old)) h
so_far room c s ds log e t (call_more {ds = rest} {log = later} call m g then) n b old h =
    let x = grown_extends (outcome room c m s call).runs c m g in
    let (one, going) = goes_well room c m s call g n.0 b.0 h.going in
    let only = only_carried _ c m (outcome room c m s call).runs (outcome room c m s call).puts old (carry room c (tape_replay c) (stands m) s call h.going.valid) g n.0 (λ f i. (one.sound f i).proper) h.going.cells.few h.only in
    let sound : (f : CopyAt) → In f (old ++ (outcome room c m s call).puts) → Sound m f = λ f i. in_append f old (outcome room c m s call).puts i (λ j. (sound_same c m f x (sound-whole c f (h.sound f j))).1 (h.sound f j)) (one.sound f) in
    subst (SoFar room e t) (append_assoc old (outcome room c m s call).puts later)
    (so_far room m (outcome room c m s call).state rest later e t then n.1 b.1 (old ++ (outcome room c m s call).puts) (record { going = going; only = only; sound = sound }))

blank-track : (n t : ℕ) → track (blank n) t ≡ []
blank-track n t = ⊎_elim (λ (h : t < n). get_or-replicate n t [] [] h) (λ (h : n ≤ t). get_or_past (blank n) t [] (omega (arith, length-replicate {A = List ℕ} n []))) (cases_lt t n)

only-blank : (n : ℕ) → Only (blank n) []
only-blank n = record {
  openings = λ t q o. let w = subst (λ (z : List ℕ). Opens z q) (blank-track n t) o in absurd (omega (arith, w.0, opens_within [] q w));
  ends = λ t. inl (blank-track n t);
}

blank-cells : (n : ℕ) → n ≤ most_tracks → OfCartridge (blank n)
blank-cells n h = record { few = omega (arith, length-replicate {A = List ℕ} n []); binary = λ t. subst (AllByRecursion Cell) (sym (blank-track n t)) tt }

-- all that was put on a new cartridge
pub put_on_new : (room tracks : ℕ) → tracks ≤ most_tracks → (ds : List AnsweredCall) (log : List CopyAt) (c : Tape) (s : DeckState) (d : Made room (blank tracks) deck_idle ds log c s) → NoneSpoiled room (blank tracks) deck_idle ds log c s d → AllOfBytes ds → SoFar room c s log
put_on_new room tracks l ds log c s d n b =
    so_far room (blank tracks) deck_idle ds log c s d n b [] (record { going = record { cells = blank-cells tracks l; valid = tt; sure = tt; well = tt }; only = only-blank tracks; sound = λ g i. elim i [ ] })

pub only_what_was_put : OnlyWhatWasPut
only_what_was_put room tracks l ds log c s d n b f = let h = put_on_new room tracks l ds log c s d n b in (to h, h.sound f)
  where
    to : SoFar room c s log → Sound c f → In f log
    to h r =
        let (g, i, a, b) = h.only.openings f.place.on f.place.at r.opens in
        let same : f ≡ g = ⊎_elim (λ (e : f ≡ g). e)
        (λ w. absurd (⊎_elim (λ y. ⊎_elim (λ (z : f.place.on ≡ g.place.on → ⊥). z (sym a)) (λ z. omega arith) y) (λ y. ⊎_elim (λ (z : g.place.on ≡ f.place.on → ⊥). z a) (λ z. omega arith) y) w))
        (never_overlap c h.going.cells f g r (h.sound g i)) in
        subst (λ (x : CopyAt). In x log) (sym same) i
