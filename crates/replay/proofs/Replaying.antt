-- Next after next from a rewind on makes the replay, and the replay goes by the sound copies alone.
use Rattle.std.proofs.Common.{◌≡◌, ℕ, zero, suc, ◌+◌, ◌<◌, ◌≤◌, Bool, true, false, cond, eqb, ltb, ◌⊎◌, List, [], ◌∷◌, ◌++◌, length, take, Some, None, Ok, Err, Option, Result, sym, refl, ap, ◌∙◌, subst, inl, inr, ⊎_elim, append_assoc, append-nil, arith, length-append}
use Rattle.std.proofs.lemmas.List.{take_at, take_all}
use Rattle.std.proofs.lemmas.Bool.{cond_both, cond-true, cond-false, ltb-true, ltb-false, eqb-true, eqb-false, ne_eqb, eq-eqb, le-ltb, lt-ltb}
use Rattle.qic24.specs.Cells.{fold}
use Rattle.qic24.specs.Copy.{Numbered}
use Rattle.qic24.specs.Opening.{Opens}
use Rattle.qic24.specs.declared.fault.CopyFault.{CopyFault}
use Rattle.qic24.proofs.Binary.{fold-append}
use Rattle.qic24.proofs.Runs.{no_opening-inside}
use Rattle.tape.specs.Tape.{Tape, track}
use Rattle.replay.specs.Copies.{body_cells, OfCartridge, TapePlace, place_on, CopyAt, placed}
use Rattle.replay.specs.Replay.{ReplayState, expecting, not_located, advance, rewound, replay_items, NumberedFrom, UnsoundOpening, UnlocatedNumber, ReplayProgress}
use Rattle.replay.specs.Scan.{read_here, OpeningAt, openings_from, tape_start, copy_read, copies_among, sound_copies}
use Rattle.replay.specs.Seeking.{FindResult, found_item, found_end, found_beyond, seek, ReplayCursor, next_found, cursor_after, take_opening, replay_start, tape_replay, ending, cursor_at, item_found, handed_out}
use Rattle.replay.specs.Laws.{ReplaysSoundCopies, NextByNext, ReplaysInOrder}
use Rattle.replay.proofs.Numbering.{Counted, counted}
use Rattle.replay.proofs.SoundCopies.{opening_of, sound-read, track-there}
use Rattle.replay.proofs.TapeOpenings.{from_skip, GoesOn, right-here, further, tape_goes}

-- the state goes by the sound copies alone
one_taken : (r : ReplayProgress) (p : TapePlace) (x : Result Numbered CopyFault) → (take_opening r (opening_of p x)).state ≡ fold advance r.state (copy_read p x)
one_taken r p (Ok i) = refl
one_taken r p (Err e) = refl

sound_part : (r : ReplayProgress) (os : List OpeningAt) → (fold take_opening r os).state ≡ fold advance r.state (copies_among os)
sound_part r [] = refl
sound_part r (o ∷ os) =
    sound_part (take_opening r o) os ∙
    (ap (λ (s : ReplayState). fold advance s (copies_among os)) (one_taken r o.place o.reads) ∙ sym (fold-append advance (copy_read o.place o.reads) (copies_among os) r.state))

pub replays_sound_copies : ReplaysSoundCopies
unfolding tape_replay
replays_sound_copies c = sound_part replay_start (openings_from c tape_start)

-- what a state has handed out is numbered from 1 on
counted-items : (s : ReplayState) → Counted s → NumberedFrom 1 (replay_items s)
counted-items (expecting out n b) h = h.0
counted-items (not_located out n p) h = h.0

pub replays_in_order : ReplaysInOrder
replays_in_order c = counted-items (tape_replay c).state (subst Counted (sym (replays_sound_copies c)) (counted rewound (sound_copies c) (tt, refl)))

-- a replay that expects n, and one that has ended
abbrev pub awaits : List Numbered → ℕ → Bool → Option UnsoundOpening → ReplayProgress
awaits out n passed u = record { state = expecting out n passed; unsound = u }

abbrev pub ended : List Numbered → ℕ → TapePlace → Option UnsoundOpening → ReplayProgress
ended out n p u = record { state = not_located out n p; unsound = u }

-- it looks no further
stays : (out : List Numbered) (n : ℕ) (p : TapePlace) (u : Option UnsoundOpening) (os : List OpeningAt) → fold take_opening (ended out n p u) os ≡ ended out n p u
stays out n p u [] = refl
stays out n p u (o ∷ os) = ap (λ (r : ReplayProgress). fold take_opening r os) (one o.reads) ∙ stays out n p u os
  where
    one : (x : Result Numbered CopyFault) → take_opening (ended out n p u) (opening_of o.place x) ≡ ended out n p u
    one (Ok i) = refl
    one (Err e) = refl

-- where the item was found: its opening, and those after it
pub record FoundAt (os : List OpeningAt) (f : CopyAt) : Type 0 where
  pub rest : List OpeningAt
  pub goes : GoesOn (opening_of f.place (Ok f.item)) rest os

-- what a find tells of the replay of these openings, which stands at r and has handed out `out`
abbrev pub Tells : List Numbered → ℕ → ReplayProgress → List OpeningAt → FindResult → Type 0
Tells out n r os (found_item f) = (w : FoundAt os f) × (fold take_opening r os ≡ fold take_opening (awaits (out ++ (f.item ∷ [])) (suc n) false None) w.rest)
Tells out n r os (found_end passed) = (v : Option UnsoundOpening) × (fold take_opening r os ≡ awaits out n passed v)
Tells out n r os (found_beyond w) = fold take_opening r os ≡ ended out w.expected w.found w.unsound

-- an opening that is passed over
tells_more : (out : List Numbered) (n : ℕ) (r s : ReplayProgress) (o : OpeningAt) (os : List OpeningAt) (x : FindResult) → take_opening r o ≡ s → Tells out n s os x → Tells out n r (o ∷ os) x
tells_more out n r s o os (found_item f) e (w, q) = (record { rest = w.rest; goes = further w.goes }, ap (λ (z : ReplayProgress). fold take_opening z os) e ∙ q)
tells_more out n r s o os (found_end passed) e (v, q) = (v, ap (λ (z : ReplayProgress). fold take_opening z os) e ∙ q)
tells_more out n r s o os (found_beyond w) e q = ap (λ (z : ReplayProgress). fold take_opening z os) e ∙ q

module _ (out : List Numbered) (n : ℕ) (b : Bool) (u : Option UnsoundOpening) (p : TapePlace) (i : Numbered) where
  -- a sound copy, by its number
  take_smaller : i.number < n → take_opening (awaits out n b u) (opening_of p (Ok i)) ≡ awaits out n b u
  take_smaller h =
      ap (λ (s : ReplayState). record { state = s; unsound = cond (eqb i.number n) None u }) (cond-true (ltb i.number n) (expecting out n b) (cond (eqb i.number n) (expecting (out ++ (i ∷ [])) (suc n) false) (cond (eqb i.number (suc n)) (expecting out n true) (not_located out n p))) (lt-ltb i.number n h)) ∙
      ap (λ (v : Option UnsoundOpening). awaits out n b v) (cond-false (eqb i.number n) None u (ne_eqb i.number n (λ e. omega arith)))

  -- what advance does at a number that is not smaller
  not_smaller : n ≤ i.number → advance (expecting out n b) (placed p i) ≡ cond (eqb i.number n) (expecting (out ++ (i ∷ [])) (suc n) false) (cond (eqb i.number (suc n)) (expecting out n true) (not_located out n p))
  not_smaller h = cond-false (ltb i.number n) (expecting out n b) (cond (eqb i.number n) (expecting (out ++ (i ∷ [])) (suc n) false) (cond (eqb i.number (suc n)) (expecting out n true) (not_located out n p))) (le-ltb i.number n h)

  take-expected : i.number ≡ n → take_opening (awaits out n b u) (opening_of p (Ok i)) ≡ awaits (out ++ (i ∷ [])) (suc n) false None
  take-expected e =
      let q = eq-eqb i.number n e in
      ap (λ (s : ReplayState). record { state = s; unsound = cond (eqb i.number n) None u }) (not_smaller (omega arith) ∙ cond-true (eqb i.number n) (expecting (out ++ (i ∷ [])) (suc n) false) (cond (eqb i.number (suc n)) (expecting out n true) (not_located out n p)) q) ∙
      ap (λ (v : Option UnsoundOpening). awaits (out ++ (i ∷ [])) (suc n) false v) (cond-true (eqb i.number n) None u q)

  -- beyond the expected number
  take_later : n < i.number → take_opening (awaits out n b u) (opening_of p (Ok i)) ≡ record { state = cond (eqb i.number (suc n)) (expecting out n true) (not_located out n p); unsound = u }
  take_later l =
      let q = ne_eqb i.number n (λ e. omega arith) in
      ap (λ (s : ReplayState). record { state = s; unsound = cond (eqb i.number n) None u }) (not_smaller (omega arith) ∙ cond-false (eqb i.number n) (expecting (out ++ (i ∷ [])) (suc n) false) (cond (eqb i.number (suc n)) (expecting out n true) (not_located out n p)) q) ∙
      ap (λ (v : Option UnsoundOpening). record { state = cond (eqb i.number (suc n)) (expecting out n true) (not_located out n p); unsound = v }) (cond-false (eqb i.number n) None u q)

pub seek-tells : (out : List Numbered) (n : ℕ) (b : Bool) (u : Option UnsoundOpening) (os : List OpeningAt) → Tells out n (awaits out n b u) os (seek n b u os)
seek-tells out n b u [] = (u, refl)
seek-tells out n b u (o ∷ os) = go o.reads (λ c v. seek-tells out n c v os)
  where
    go : (x : Result Numbered CopyFault) → ((c : Bool) (v : Option UnsoundOpening) → Tells out n (awaits out n c v) os (seek n c v os)) → Tells out n (awaits out n b u) (opening_of o.place x ∷ os) (seek n b u (opening_of o.place x ∷ os))
    go (Err e) ih = tells_more out n (awaits out n b u) (awaits out n b (Some (record { place = o.place; cause = e }))) (opening_of o.place (Err e)) os (seek n b (Some (record { place = o.place; cause = e })) os) refl (ih b (Some (record { place = o.place; cause = e })))
    go (Ok i) ih =
        cond_both (ltb i.number n) _ _ (Tells out n (awaits out n b u) (opening_of o.place (Ok i) ∷ os))
        (λ l. tells_more out n (awaits out n b u) (awaits out n b u) (opening_of o.place (Ok i)) os (seek n b u os) (take_smaller out n b u o.place i (ltb-true i.number n l)) (ih b u))
        (λ l. cond_both (eqb i.number n) _ _ (Tells out n (awaits out n b u) (opening_of o.place (Ok i) ∷ os))
        (λ e. (record { rest = os; goes = right-here }, ap (λ (z : ReplayProgress). fold take_opening z os) (take-expected out n b u o.place i (eqb-true i.number n e))))
        (λ e. cond_both (eqb i.number (suc n)) _ _ (Tells out n (awaits out n b u) (opening_of o.place (Ok i) ∷ os))
        (λ q. tells_more out n (awaits out n b u) (awaits out n true u) (opening_of o.place (Ok i)) os (seek n true u os)
        (take_later out n b u o.place i (later (ltb-false i.number n l) (eqb-false i.number n e)) ∙ ap (λ (s : ReplayState). record { state = s; unsound = u }) (cond-true (eqb i.number (suc n)) (expecting out n true) (not_located out n o.place) q)) (ih true u))
        (λ q. ap (λ (z : ReplayProgress). fold take_opening z os) (take_later out n b u o.place i (later (ltb-false i.number n l) (eqb-false i.number n e)) ∙ ap (λ (s : ReplayState). record { state = s; unsound = u }) (cond-false (eqb i.number (suc n)) (expecting out n true) (not_located out n o.place) q)) ∙ stays out n o.place u os)))
      where
        later : n ≤ i.number → (i.number ≡ n → ⊥) → n < i.number
        later h d = grind arith

-- a replay only adds to what it has handed out
advance-items : (s : ReplayState) (f : CopyAt) → (more : List Numbered) × (replay_items (advance s f) ≡ replay_items s ++ more)
advance-items (not_located out n p) f = ([], sym (append-nil out))
advance-items (expecting out n b) f =
    cond_both (ltb f.item.number n) _ _ Adds (λ _. ([], sym (append-nil out)))
    (λ _. cond_both (eqb f.item.number n) _ _ Adds (λ _. (f.item ∷ [], refl))
    (λ _. cond_both (eqb f.item.number (suc n)) _ _ Adds (λ _. ([], sym (append-nil out))) (λ _. ([], sym (append-nil out)))))
  where
    Adds : ReplayState → Type 0
    Adds s = (more : List Numbered) × (replay_items s ≡ out ++ more)

fold-items : (s : ReplayState) (fs : List CopyAt) → (more : List Numbered) × (replay_items (fold advance s fs) ≡ replay_items s ++ more)
fold-items s [] = ([], sym (append-nil (replay_items s)))
fold-items s (f ∷ fs) =
    let (a, p) = advance-items s f in
    let (b, q) = fold-items (advance s f) fs in
    (a ++ b, q ∙ (ap (λ (x : List Numbered). x ++ b) p ∙ append_assoc (replay_items s) a b))

taken-items : (r : ReplayProgress) (os : List OpeningAt) → (more : List Numbered) × (replay_items (fold take_opening r os).state ≡ replay_items r.state ++ more)
taken-items r os = let (a, p) = fold-items r.state (copies_among os) in (a, ap replay_items (sound_part r os) ∙ p)

-- right after a sound copy there is nothing to miss: its cells hold no opening
pub after-sound : (c : Tape) → OfCartridge c → (t p : ℕ) (i : Numbered) → Opens (track c t) p → read_here t (track c t) p ≡ Ok i → openings_from c (place_on t (suc p)) ≡ openings_from c (place_on t (p + body_cells))
after-sound c k t p i o e =
    let l = (track-there c k t p o).1 in
    from_skip c t (suc p) (p + body_cells) (omega arith) (λ q a b. no_opening-inside t (track c t) p i l (sound-read t (track c t) p i l (k.binary t) o e) q (omega arith) (omega arith))

-- the openings after an item that was found
pub after-item : (c : Tape) → OfCartridge c → (p : TapePlace) (f : CopyAt) (w : FoundAt (openings_from c p) f) → w.rest ≡ openings_from c (place_on f.place.on (f.place.at + body_cells))
after-item c k p f w =
    let o = tape_goes c p (opening_of f.place (Ok f.item)) w.rest w.goes in
    let there : f.place ≡ place_on o.on o.at = ap (λ (x : OpeningAt). x.place) o.is in
    let reads : read_here o.on (track c o.on) o.at ≡ Ok f.item = sym (ap (λ (x : OpeningAt). x.reads) o.is) in
    o.after ∙ (after-sound c k o.on o.at f.item o.opens reads ∙ ap (λ (z : TapePlace). openings_from c (place_on z.on (z.at + body_cells))) (sym there))

-- a replay of the tape that has handed out `out` and expects n goes on at the place p
abbrev pub ReplaysFrom : Tape → List Numbered → ℕ → TapePlace → Type 0
ReplaysFrom c out n p = fold take_opening (awaits out n false None) (openings_from c p) ≡ tape_replay c

pub replays_from_start : (c : Tape) → ReplaysFrom c [] 1 tape_start
unfolding tape_replay
replays_from_start c = refl

module _ (c : Tape) (out : List Numbered) (n : ℕ) (p : TapePlace) (r : ReplaysFrom c out n p) where
  tells-there : (x : FindResult) → seek n false None (openings_from c p) ≡ x → Tells out n (awaits out n false None) (openings_from c p) x
  tells-there x e = subst (Tells out n (awaits out n false None) (openings_from c p)) e (seek-tells out n false None (openings_from c p))

  -- an item is handed out: the replay goes on right after it
  pub replays_from_item : OfCartridge c → (f : CopyAt) → seek n false None (openings_from c p) ≡ found_item f → ReplaysFrom c (out ++ (f.item ∷ [])) (suc n) (place_on f.place.on (f.place.at + body_cells))
  replays_from_item h f e =
      let (w, q) = tells-there (found_item f) e in
      ap (fold take_opening (awaits (out ++ (f.item ∷ [])) (suc n) false None)) (sym (after-item c h p f w)) ∙ (sym q ∙ r)

  -- the end
  pub replays_to_end : (passed : Bool) → seek n false None (openings_from c p) ≡ found_end passed → (tape_replay c).state ≡ expecting out n passed
  replays_to_end passed e = let (v, q) = tells-there (found_end passed) e in ap (λ (z : ReplayProgress). z.state) (sym r ∙ q)

  -- a number beyond
  pub replays_to_beyond : (w : UnlocatedNumber) → seek n false None (openings_from c p) ≡ found_beyond w → tape_replay c ≡ ended out w.expected w.found w.unsound
  replays_to_beyond w e = sym r ∙ tells-there (found_beyond w) e

-- where calls of next have come after `out` was handed out, k calls from a rewind on
pub record Reached (c : Tape) (k : ℕ) (out : List Numbered) (cursor : ReplayCursor) : Type 0 where
  pub from : TapePlace
  pub is : cursor ≡ record { expected = suc (length out); from = from }
  pub count : length out ≤ k
  pub replays : ReplaysFrom c out (suc (length out)) from
  pub ends : (length out ≡ k) ⊎ (item_found (next_found c cursor) ≡ [])

module _ (c : Tape) (h : OfCartridge c) where
  -- what the next call tells
  next-tells : (k : ℕ) (out : List Numbered) (cursor : ReplayCursor) (w : Reached c k out cursor) → Tells out (suc (length out)) (awaits out (suc (length out)) false None) (openings_from c w.from) (next_found c cursor)
  next-tells k out cursor w =
      subst (λ (z : ReplayCursor). Tells out (suc (length out)) (awaits out (suc (length out)) false None) (openings_from c w.from) (next_found c z)) (sym w.is)
      (seek-tells out (suc (length out)) false None (openings_from c w.from))

  reached-more : (k : ℕ) (out : List Numbered) (cursor : ReplayCursor) → Reached c k out cursor → Reached c (suc k) (out ++ item_found (next_found c cursor)) (cursor_after cursor (next_found c cursor))
  reached-more k out cursor w = go (next_found c cursor) refl (next-tells k out cursor w)
    where
      same : (x : FindResult) → next_found c cursor ≡ x → item_found x ≡ [] → Reached c (suc k) (out ++ []) cursor
      same x e z = subst (λ (l : List Numbered). Reached c (suc k) l cursor) (sym (append-nil out))
          (record { from = w.from; is = w.is; count = omega (arith, w.count); replays = w.replays; ends = inr (ap item_found e ∙ z) })

      go : (x : FindResult) → next_found c cursor ≡ x → Tells out (suc (length out)) (awaits out (suc (length out)) false None) (openings_from c w.from) x → Reached c (suc k) (out ++ item_found x) (cursor_after cursor x)
      go (found_item f) e (v, q) =
          let l : length (out ++ (f.item ∷ [])) ≡ suc (length out) = omega (arith, length-append out (f.item ∷ [])) in
          let n : cursor.expected ≡ suc (length out) = ap (λ (z : ReplayCursor). z.expected) w.is in
          let counted : length out ≡ k = ⊎_elim (λ a. a) (λ a. let z : ◌≡◌ {A = ℕ} 1 0 = ap length (sym (ap item_found e) ∙ a) in absurd (omega arith)) w.ends in
          record {
            from = place_on f.place.on (f.place.at + body_cells);
            is = ap (λ (j : ℕ). record { expected = suc j; from = place_on f.place.on (f.place.at + body_cells) }) (n ∙ sym l);
            count = omega arith;
            replays = subst (λ (j : ℕ). ReplaysFrom c (out ++ (f.item ∷ [])) (suc j) (place_on f.place.on (f.place.at + body_cells))) (sym l) (replays_from_item c out (suc (length out)) w.from w.replays h f (sym (ap (next_found c) w.is) ∙ e));
            ends = inl (omega arith);
          }
      go (found_end b) e q = same (found_end b) e refl
      go (found_beyond v) e q = same (found_beyond v) e refl

  reached : (k : ℕ) → Reached c k (handed_out c k) (cursor_at c k)
  reached zero = record { from = tape_start; is = refl; count = omega arith; replays = replays_from_start c; ends = inl refl }
  reached (suc k) = reached-more k (handed_out c k) (cursor_at c k) (reached k)

  tells-replay : (k : ℕ) (out : List Numbered) (cursor : ReplayCursor) → Reached c k out cursor → (out ≡ take k (replay_items (tape_replay c).state)) × (length (replay_items (tape_replay c).state) ≤ k → next_found c cursor ≡ ending (tape_replay c).state (tape_replay c).unsound)
  tells-replay k out cursor w = go (next_found c cursor) refl (next-tells k out cursor w)
    where
      all : (s : ReplayState) (u : Option UnsoundOpening) (x : FindResult) → tape_replay c ≡ record { state = s; unsound = u } → replay_items s ≡ out → x ≡ ending s u → next_found c cursor ≡ x → (out ≡ take k (replay_items (tape_replay c).state)) × (length (replay_items (tape_replay c).state) ≤ k → next_found c cursor ≡ ending (tape_replay c).state (tape_replay c).unsound)
      all s u x e i q f =
          let is : replay_items (tape_replay c).state ≡ out = ap (λ (r : ReplayProgress). replay_items r.state) e ∙ i in
          (sym (ap (take k) is ∙ take_all k out w.count), λ _. f ∙ (q ∙ sym (ap (λ (r : ReplayProgress). ending r.state r.unsound) e)))

      go : (x : FindResult) → next_found c cursor ≡ x → Tells out (suc (length out)) (awaits out (suc (length out)) false None) (openings_from c w.from) x → (out ≡ take k (replay_items (tape_replay c).state)) × (length (replay_items (tape_replay c).state) ≤ k → next_found c cursor ≡ ending (tape_replay c).state (tape_replay c).unsound)
      go (found_item f) e (v, q) =
          let counted : length out ≡ k = ⊎_elim (λ a. a) (λ a. let z : ◌≡◌ {A = ℕ} 1 0 = ap length (sym (ap item_found e) ∙ a) in absurd (omega arith)) w.ends in
          let m = taken-items (awaits (out ++ (f.item ∷ [])) (suc (suc (length out))) false None) v.rest in
          let is : replay_items (tape_replay c).state ≡ out ++ (f.item ∷ m.0) = ap (λ (r : ReplayProgress). replay_items r.state) (sym w.replays ∙ q) ∙ (m.1 ∙ append_assoc out (f.item ∷ []) m.0) in
          let l : length (replay_items (tape_replay c).state) ≡ length out + suc (length m.0) = ap length is ∙ length-append out (f.item ∷ m.0) in
          (sym (ap (take k) is ∙ take_at out (f.item ∷ m.0) k counted), λ few. absurd (omega arith))
      go (found_end b) e (v, q) = all (expecting out (suc (length out)) b) v (found_end b) (sym w.replays ∙ q) refl refl e
      go (found_beyond v) e q = all (not_located out v.expected v.found) v.unsound (found_beyond v) (sym w.replays ∙ q) refl refl e

pub next_by-next : NextByNext
next_by-next c h k = tells-replay c h k (handed_out c k) (cursor_at c k) (reached c h k)
