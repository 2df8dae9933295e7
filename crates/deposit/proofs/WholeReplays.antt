-- A replay that keeps what it hands out.
use Rattle.std.proofs.Common.{◌≡◌, suc, ◌+◌, ◌<◌, Bool, cond, List, [], ◌∷◌, ◌++◌, map, length, is_ok, Ok, Result, sym, ap, ◌∙◌, subst}
use Rattle.std.proofs.lemmas.List.{map_push}
use Rattle.std.proofs.lemmas.Bool.{cond-true}
use Rattle.qic24.specs.Measures.{body_cells}
use Rattle.qic24.specs.Copy.{Numbered, held}
use Rattle.qic24.specs.declared.item.Item.{Item}
use Rattle.tape.specs.Tape.{Tape}
use Rattle.replay.specs.Answered.{found_by, goes_on}
use Rattle.replay.specs.Copies.{OfCartridge, place_on, placed}
use Rattle.replay.specs.Replay.{ReplayState, replay_items, ReplayProgress}
use Rattle.replay.specs.Scan.{openings_from}
use Rattle.replay.specs.Seeking.{found_item, found_end, found_beyond, next_found, cursor_after, tape_replay, ending}
use Rattle.replay.specs.declared.cursor.ReplayCursor.{ReplayCursor}
use Rattle.replay.specs.declared.found.Found.{Found}
use Rattle.replay.specs.declared.found.Found.TheVariants as found
use Rattle.replay.specs.declared.place.TapePlace.{TapePlace}
use Rattle.replay.specs.declared.unlocated.UnlocatedNumber.{UnlocatedNumber}
use Rattle.replay.proofs.Counts.{item_fewer}
use Rattle.replay.proofs.Replaying.{ReplaysFrom, replays_from_item, replays_to_end, replays_to_beyond}

-- an item that found memory is the last of the list
pub last-kept : {E : Type 0} (r : Result (Unit {0}) E) (u : Unit {0}) (xs ys : List Item) (i : Item) → r ≡ Ok u → ys ≡ cond (is_ok r) (xs ++ (i ∷ [])) xs → ys ≡ xs ++ (i ∷ [])
last-kept r u xs ys i e h = h ∙ cond-true (is_ok r) (xs ++ (i ∷ [])) xs (ap is_ok e)

-- next hands out an item: what it found, and where the replay goes on
module _ (c : Tape) (h : OfCartridge c) (k : ReplayCursor) (x : Found) (p : TapePlace) (i : Item) (after : ReplayCursor) (is : x ≡ found.Item p i after)
    (answer : found_by (Ok x) ≡ next_found c k) (goes : goes_on k (Ok x) ≡ cursor_after k (next_found c k)) where
  item-there : found_item (placed p (held i)) ≡ next_found c k
  item-there = sym (ap (λ (z : Found). found_by (Ok z)) is) ∙ answer

  after-there : after ≡ cursor_after k (next_found c k)
  after-there = sym (ap (λ (z : Found). goes_on k (Ok z)) is) ∙ goes

  -- fewer openings are left
  pub fewer_left : length (openings_from c after.from) < length (openings_from c k.from)
  fewer_left = item_fewer c h k after (placed p (held i)) item-there after-there

  -- and it is kept
  pub more-replayed : (xs : List Item) → ReplaysFrom c (map held xs) k.expected k.from → ReplaysFrom c (map held (xs ++ (i ∷ []))) after.expected after.from
  more-replayed xs r =
      subst (λ (z : ReplayCursor). ReplaysFrom c (map held (xs ++ (i ∷ []))) z.expected z.from) (sym (after-there ∙ ap (cursor_after k) (sym item-there)))
      (subst (λ (out : List Numbered). ReplaysFrom c out (suc k.expected) (place_on p.on (p.at + body_cells))) (sym (map_push held xs i)) (replays_from_item c (map held xs) k.expected k.from r h (placed p (held i)) (sym item-there)))

module _ (c : Tape) (xs : List Item) (k : ReplayCursor) (r : ReplaysFrom c (map held xs) k.expected k.from) where
  -- the end
  pub end-replayed : (x : Found) (passed : Bool) → x ≡ found.End passed → found_by (Ok x) ≡ next_found c k → (map held xs ≡ replay_items (tape_replay c).state) × (found_end passed ≡ ending (tape_replay c).state (tape_replay c).unsound)
  end-replayed x passed is answer =
      let s = replays_to_end c (map held xs) k.expected k.from r passed (sym answer ∙ ap (λ (z : Found). found_by (Ok z)) is) in
      (sym (ap replay_items s), sym (ap (λ (z : ReplayState). ending z (tape_replay c).unsound) s))

  -- a number that is not located
  pub beyond-replayed : (w : UnlocatedNumber) → found_beyond w ≡ next_found c k → (map held xs ≡ replay_items (tape_replay c).state) × (found_beyond w ≡ ending (tape_replay c).state (tape_replay c).unsound)
  beyond-replayed w e =
      let s = replays_to_beyond c (map held xs) k.expected k.from r w (sym e) in
      (sym (ap (λ (z : ReplayProgress). replay_items z.state) s), sym (ap (λ (z : ReplayProgress). ending z.state z.unsound) s))
