-- Calls made on a tape are steps over its log.
use Rattle.std.proofs.Common.{◌≡◌, ℕ, ◌+◌, ◌≤◌, Bool, true, cond, ltb, ◌↔◌, List, [], ◌∷◌, ◌++◌, length, filter, Option, sym, refl, ap, ◌∙◌, subst, inl, inr, append_assoc, append-nil, arith}
use Rattle.std.proofs.lemmas.Bool.{cond_both, cases_order}
use Rattle.std.proofs.lemmas.Bool.Decides.{same_from_decides}
use Rattle.qic24.specs.Cells.{fold}
use Rattle.tape.specs.Tape.{Tape, track, Grown, blank}
use Rattle.deck.specs.Measures.{item_room}
use Rattle.replay.specs.Copies.{body_cells, OfCartridge, CopyAt, Sound, Whole, Before, Ascending, In, here, there, NoFalseCopy}
use Rattle.replay.specs.Replay.{ReplayState, expecting, not_located, advance, rewound, ReplayProgress}
use Rattle.replay.specs.declared.unlocated.UnsoundOpening.{UnsoundOpening}
use Rattle.replay.specs.Scan.{sound_copies, stands}
use Rattle.replay.specs.Seeking.{tape_replay}
use Rattle.deck.specs.Calls.{DeckCall, begin_call, write_call, mark_call, stop_call, AnsweredCall, unlocated}
use Rattle.deck.specs.Deck.{DeckState, deck_idle, deck_recording, CallOutcome, begins, call_does}
use Rattle.deck.specs.CallsMade.{outcome, Made, no_call, call_more}
use Rattle.deck.proofs.Steps.{replay_of, at_rest, begun, not_begun, CallSteps, no_step, one_step}
use Rattle.replay.proofs.Growing.{Extends, extends_refl, extends_trans, grown_extends, extends_length, of_cartridge_before, whole-more, sound_same}
use Rattle.deck.proofs.CopyLengths.{sound-whole}
use Rattle.deck.proofs.CallRuns.{Valid, New}
use Rattle.deck.proofs.LaterTapes.{same_does}
use Rattle.replay.proofs.Orders.{found, in_append, ascending_append}
use Rattle.deck.proofs.CallSteps.{standing, StepsBy, same_step, declines_step, write_step, mark_step, stop_step}
use Rattle.replay.proofs.SoundCopies.{lists_sound_copies, stands_exactly}
use Rattle.replay.proofs.Replaying.{replays_sound_copies}
use Rattle.deck.proofs.MadeCalls.{Past, made_extends, step_fine, made-past}

-- a tape with a log of the copies that were put on it by two operators
pub record Recorded (c : Tape) (one two : List AnsweredCall) : Type 0 where
  pub good : CopyAt → Bool
  pub middle : List CopyAt
  pub log : List CopyAt
  pub decides : (f : CopyAt) → (good f ≡ true) ↔ Sound c f
  pub ordered : Ascending log
  pub by_one : CallSteps good [] at_rest one middle at_rest
  pub by_two : CallSteps good middle at_rest two log at_rest
  pub no_false : NoFalseCopy c log

module _ (limit : ℕ) where
  -- what lies whole is judged alike on every later tape
  stands_same : (a b : Tape) → Extends a b → OfCartridge b → (f : CopyAt) → Whole a f → stands a f ≡ stands b f
  stands_same a b x k f w =
      let s = sound_same a b f x w in
      let d = stands_exactly a (of_cartridge_before a b x k) f in
      let l = stands_exactly b k f in
      same_from_decides (stands a f) (stands b f) (d.0, d.1) (λ t. s.0 (l.0 t), λ z. l.1 (s.1 z))

  kept_by_same : (c e : Tape) (log : List CopyAt) → Extends c e → OfCartridge e → ((f : CopyAt) → In f log → Whole c f) → filter (stands c) log ≡ filter (stands e) log
  kept_by_same c e [] x k w = refl
  kept_by_same c e (f ∷ log) x k w =
      let j = stands_same c e x k f (w f here) in
      let r = kept_by_same c e log x k (λ g i. w g (there i)) in
      ap (λ (b : Bool). cond b (f ∷ filter (stands c) log) (filter (stands c) log)) j ∙ ap (λ (l : List CopyAt). cond (stands e f) (f ∷ l) l) r

  -- with no false copy at the end there is none before, and the tape is read as the log so far
  replay_so_far : (c e : Tape) (old rest : List CopyAt) → Extends c e → OfCartridge e → ((f : CopyAt) → In f old → Whole c f) → Ascending old → Past c rest → NoFalseCopy e (old ++ rest) → (tape_replay c).state ≡ replay_of (stands e) old
  replay_so_far c e old rest x k w a p n =
      let d = of_cartridge_before c e x k in
      replays_sound_copies c ∙ ap (fold advance rewound)
      (found (stands c) c (sound_copies c) old (lists_sound_copies c d) a (λ f. (stands_exactly c d f).0) (λ f. (stands_exactly c d f).1) none_before ∙ kept_by_same c e old x k w)
    where
      none_before : NoFalseCopy c old
      none_before f s =
          let k = sound-whole c f s in
          in_append f old rest (n f ((sound_same c e f x k).1 s)) (λ i. i) (λ i. absurd (omega (arith, p f i)))

  begin_step : (c m e : Tape) (old : List CopyAt) (s : DeckState) (r : ReplayProgress) → r.state ≡ replay_of (stands e) old → Grown c (call_does r (stands e) limit c s begin_call).runs m → StepsBy (stands e) old c m s begin_call (call_does r (stands e) limit c s begin_call)
  begin_step c m e old (deck_recording s p) r h = declines_step (stands e) limit c m old (deck_recording s p) begin_call 16
  begin_step c m e old deck_idle r h = cond_both (ltb limit item_room) _ _ (λ o. Grown c o.runs m → StepsBy (stands e) old c m deck_idle begin_call o) (λ _. declines_step (stands e) limit c m old deck_idle begin_call 11) (λ _. go r.state r.unsound h)
    where
      go : (r : ReplayState) (u : Option UnsoundOpening) → r ≡ replay_of (stands e) old → Grown c (begins r u).runs m → StepsBy (stands e) old c m deck_idle begin_call (begins r u)
      go (expecting out n b) u h g = begun out n b (sym h)
      go (not_located out n p) u h g = same_step (stands e) limit c m old deck_idle (record { call = begin_call; answer = unlocated (record { expected = n; found = p; unsound = u }) }) g (not_begun (record { expected = n; found = p; unsound = u }))

  any_step : (c m e : Tape) (old : List CopyAt) (s : DeckState) (r : ReplayProgress) (call : DeckCall) → Valid limit c s → r.state ≡ replay_of (stands e) old → Grown c (call_does r (stands e) limit c s call).runs m → StepsBy (stands e) old c m s call (call_does r (stands e) limit c s call)
  any_step c m e old s r begin_call v h = begin_step c m e old s r h
  any_step c m e old s r (write_call bs) v h = write_step (stands e) limit c m old s bs v
  any_step c m e old s r mark_call v h = mark_step (stands e) limit c m old s v
  any_step c m e old s r stop_call v h = stop_step (stands e) limit c m old s v

  pub record Stepped (c e F : Tape) (old log : List CopyAt) (s : DeckState) (ds : List AnsweredCall) (t : DeckState) : Type 0 where
    pub does_it : CallSteps (stands F) old (standing c s) ds (old ++ log) (standing e t)
    pub valid : Valid limit e t
    pub whole : (f : CopyAt) → In f (old ++ log) → Whole e f
    pub ordered : Ascending (old ++ log)

  pub stepped : (F : Tape) (rest : List CopyAt) (c : Tape) (s : DeckState) (ds : List AnsweredCall) (log : List CopyAt) (e : Tape) (t : DeckState) → Made limit c s ds log e t → (old : List CopyAt) → Valid limit c s → ((f : CopyAt) → In f old → Whole c f) → Ascending old → Past e rest → Extends e F → OfCartridge F → NoFalseCopy F ((old ++ log) ++ rest) → Stepped c e F old log s ds t
  stepped F rest c s ds log e t no_call old v w a p x z n =
      record { does_it = subst (λ (l : List CopyAt). CallSteps (stands F) old (standing c s) [] l (standing c s)) (sym (append-nil old)) no_step; valid = v; whole = λ f i. w f (subst (In f) (append-nil old) i); ordered = subst Ascending (sym (append-nil old)) a }
  stepped F rest c s ds log e t (call_more {ds = calls} {log = later} call m g then) old v w a p x z n =
      let k = step_fine limit c m s call v g in
      let cm = grown_extends (outcome limit c m s call).runs c m g in
      let me = made_extends limit m (outcome limit c m s call).state calls later e t then in
      let mF = extends_trans m e F me x in
      let cF = extends_trans c m F cm mF in
      let past : Past c (((outcome limit c m s call).puts ++ later) ++ rest) = λ f i. in_append f ((outcome limit c m s call).puts ++ later) rest i (made-past limit c s (record { call = call; answer = (outcome limit c m s call).answer } ∷ calls) ((outcome limit c m s call).puts ++ later) e t (call_more call m g then) v f) (λ j. omega (arith, p f j, extends_length c e f.place.on (extends_trans c m e cm me))) in
      let n1 : NoFalseCopy F (old ++ (((outcome limit c m s call).puts ++ later) ++ rest)) = subst (NoFalseCopy F) (append_assoc old ((outcome limit c m s call).puts ++ later) rest) n in
      let r = replay_so_far c F old (((outcome limit c m s call).puts ++ later) ++ rest) cF z w a past n1 in
      let same = same_does (stands m) (stands F) c m (stands_same m F mF z) limit (tape_replay c) s call cm v k in
      let one : StepsBy (stands F) old c m s call (outcome limit c m s call) = subst (λ (q : CallOutcome). StepsBy (stands F) old c m s call q) (sym same) (any_step c m F old s (tape_replay c) call v r (subst (λ (q : CallOutcome). Grown c q.runs m) same g)) in
      let w1 : (f : CopyAt) → In f (old ++ (outcome limit c m s call).puts) → Whole m f = λ f i. in_append f old (outcome limit c m s call).puts i (λ j. whole-more c m f cm (w f j)) (λ j. (k.new f j).1) in
      let a1 : Ascending (old ++ (outcome limit c m s call).puts) = ascending_append old (outcome limit c m s call).puts a k.ascending (λ f q i j. in_order f q (w f i) (k.new q j)) in
      let ih = stepped F rest m (outcome limit c m s call).state calls later e t then (old ++ (outcome limit c m s call).puts) k.valid w1 a1 p x z (subst (λ (l : List CopyAt). NoFalseCopy F (l ++ rest)) (sym (append_assoc old (outcome limit c m s call).puts later)) n) in
      let join = append_assoc old (outcome limit c m s call).puts later in
      record {
        does_it = subst (λ (l : List CopyAt). CallSteps (stands F) old (standing c s) (record { call = call; answer = (outcome limit c m s call).answer } ∷ calls) l (standing e t)) join (one_step (outcome limit c m s call).puts one ih.does_it);
        valid = ih.valid;
        whole = λ f i. ih.whole f (subst (In f) (sym join) i);
        ordered = subst Ascending join ih.ordered;
      }
    where
      in_order : (f q : CopyAt) → Whole c f → New c m q → Before f.place q.place
      in_order f q u z = elim (cases_order f.place.on q.place.on) [
        | inl y ↦ inr (y, omega (arith, subst (λ (b : ℕ). f.place.at + body_cells ≤ length (track c b)) y u, z.0))
        | inr y ↦ elim y [ inl l ↦ inl l | inr l ↦ absurd (omega (arith, u, ap length (z.2 f.place.on l))) ]
      ]

  -- two operators on the same new tape
  pub recorded : (tracks : ℕ) (one two : List AnsweredCall) (by_one by_two : List CopyAt) (c e : Tape) → Made limit (blank tracks) deck_idle one by_one c deck_idle → Made limit c deck_idle two by_two e deck_idle → OfCartridge e → NoFalseCopy e (by_one ++ by_two) → Recorded e one two
  recorded tracks one two by_one by_two c e a b z n =
      let f = stepped e by_two (blank tracks) deck_idle one by_one c deck_idle a [] tt (λ x i. elim i [ ]) tt (made-past limit c deck_idle two by_two e deck_idle b tt) (made_extends limit c deck_idle two by_two e deck_idle b) z n in
      let g = stepped e [] c deck_idle two by_two e deck_idle b by_one tt f.whole f.ordered (λ x i. elim i [ ]) (extends_refl e) z (subst (NoFalseCopy e) (sym (append-nil (by_one ++ by_two))) n) in
      record { good = stands e; middle = by_one; log = by_one ++ by_two; decides = stands_exactly e z; ordered = g.ordered; by_one = f.does_it; by_two = g.does_it; no_false = n }
