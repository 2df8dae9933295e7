-- A replay by next after next, from a rewind to its end.
use Rattle.std.proofs.Common.{◌≡◌, suc, ◌+◌, ◌<◌, ◌≤◌, Bool, false, List, [], ◌∷◌, ◌++◌, length, None, Ok, Err, sym, ap, ◌∙◌, subst, arith}
use Rattle.qic24.specs.Copy.{Numbered, held}
use Rattle.qic24.specs.declared.item.Item.{Item}
use Rattle.tape.specs.Tape.{Tape}
use Rattle.replay.specs.Answered.{found_by, goes_on, number_after}
use Rattle.replay.specs.Copies.{body_cells, OfCartridge, TapePlace, place_on, CopyAt, placed}
use Rattle.replay.specs.Replay.{ReplayState, UnlocatedNumber, ReplayProgress}
use Rattle.replay.specs.Scan.{OpeningAt, openings_from}
use Rattle.replay.specs.Seeking.{found_item, found_end, found_beyond, ReplayCursor, next_found, cursor_after, tape_replay}
use Rattle.replay.specs.declared.found.Found.{Found}
use Rattle.replay.specs.declared.found.Found.TheVariants as found
use Rattle.replay.specs.Finding.{Finds, FindsItem}
use Rattle.replay.proofs.FoundThings.{next_finds}
use Rattle.replay.proofs.Replaying.{awaits, Tells, seek-tells, after-item, ReplaysFrom, replays_from_item, replays_to_end, replays_to_beyond}
use Rattle.replay.proofs.TapeOpenings.{goes_fewer}

-- at this cursor a replay of the tape goes on
pub record GoesOnAt (c : Tape) (k : ReplayCursor) : Type 0 where
  pub out : List Numbered
  pub replays : ReplaysFrom c out k.expected k.from
  pub least : 1 ≤ k.expected
  pub most : k.expected ≤ 1048576

-- what next answers, in the words of the definitions
module _ (c : Tape) (k : ReplayCursor) (x : Found) (m : found_by (Ok x) ≡ next_found c k) where
  pub finds-item : (p : TapePlace) (i : Item) (k' : ReplayCursor) → x ≡ found.Item p i k' → found_item (placed p (held i)) ≡ next_found c k
  finds-item p i k' is = ap (λ (z : Found). found_by (Ok z)) (sym is) ∙ m

  pub moves-item : (p : TapePlace) (i : Item) (k' : ReplayCursor) → x ≡ found.Item p i k' → goes_on k (Ok x) ≡ cursor_after k (next_found c k) → k' ≡ cursor_after k (next_found c k)
  moves-item p i k' is a = ap (λ (z : Found). goes_on k (Ok z)) (sym is) ∙ a

  pub finds-end : (passed : Bool) → x ≡ found.End passed → found_end passed ≡ next_found c k
  finds-end passed is = ap (λ (z : Found). found_by (Ok z)) (sym is) ∙ m

module _ (c : Tape) (h : OfCartridge c) (k k' : ReplayCursor) (f : CopyAt) (e : found_item f ≡ next_found c k) (a : k' ≡ cursor_after k (next_found c k)) where
  pub is-after : record { expected = suc k.expected; from = place_on f.place.on (f.place.at + body_cells) } ≡ k'
  is-after = sym (a ∙ ap (cursor_after k) (sym e))

  -- after an item it goes on, and fewer openings are left
  pub item_goes : GoesOnAt c k → GoesOnAt c k'
  item_goes w =
      let found : FindsItem c k.expected k.from f = subst (Finds c k.expected k.from) (sym e) (next_finds c h k) in
      let small : k.expected ≤ 1048575 = omega (arith, found.number, found.sound.proper.most) in
      subst (GoesOnAt c) is-after (record { out = w.out ++ (f.item ∷ []); replays = replays_from_item c w.out k.expected k.from w.replays h f (sym e); least = omega arith; most = omega arith })

  pub item_fewer : length (openings_from c k'.from) < length (openings_from c k.from)
  item_fewer =
      let t : Tells [] k.expected (awaits [] k.expected false None) (openings_from c k.from) (found_item f) =
      subst (Tells [] k.expected (awaits [] k.expected false None) (openings_from c k.from)) (sym e) (seek-tells [] k.expected false None (openings_from c k.from)) in
      let w = t.0 in
      subst (λ (z : ReplayCursor). length (openings_from c z.from) < length (openings_from c k.from)) is-after
      (subst (λ (os : List OpeningAt). length os < length (openings_from c k.from)) (after-item c h k.from f w) (goes_fewer _ w.rest (openings_from c k.from) w.goes))

-- at the end it expects the number after its last item
pub end-number : (c : Tape) (k : ReplayCursor) (passed : Bool) → GoesOnAt c k → found_end passed ≡ next_found c k → Ok k.expected ≡ number_after (tape_replay c).state (tape_replay c).unsound
end-number c k passed w e = sym (ap (λ (s : ReplayState). number_after s (tape_replay c).unsound) (replays_to_end c w.out k.expected k.from w.replays passed (sym e)))

pub beyond-number : (c : Tape) (k : ReplayCursor) (v : UnlocatedNumber) → GoesOnAt c k → found_beyond v ≡ next_found c k → Err v ≡ number_after (tape_replay c).state (tape_replay c).unsound
beyond-number c k v w e = sym (ap (λ (r : ReplayProgress). number_after r.state r.unsound) (replays_to_beyond c w.out k.expected k.from w.replays v (sym e)))
