-- The rows of a replay, file by file.
use Rattle.std.proofs.Common.{◌≡◌, ℕ, suc, ◌+◌, ◌<◌, ◌≤◌, Bool, true, false, cond, eqb, ltb, List, [], ◌∷◌, ◌++◌, length, get_or, drop, set, unwrap_or, Some, None, IfSome, Ok, IfOk, Err, Option, Result, sym, refl, ap, ◌∙◌, subst, append_assoc, arith, length-append}
use Rattle.std.proofs.lemmas.List.{drop_more, set_at}
use Rattle.std.proofs.lemmas.Bool.{cond-true, cond-false, ne_eqb}
use Rattle.qic24.specs.Cells.{fold}
use Rattle.qic24.specs.Copy.{Numbered, held}
use Rattle.qic24.specs.Decode.{mapped_ok}
use Rattle.qic24.specs.declared.fault.CopyFault.{CopyFault}
use Rattle.qic24.specs.declared.item.Content.{Content}
use Rattle.qic24.specs.declared.item.Item.{Item}
use Rattle.tape.specs.Tape.{Tape}
use Rattle.replay.specs.Answered.{found_by, goes_on}
use Rattle.replay.specs.Copies.{body_cells, OfCartridge, place_on, CopyAt, placed}
use Rattle.replay.specs.Finding.{Finds, FindsItem}
use Rattle.replay.specs.Replay.{ReplayState, expecting, not_located, advance, ReplayProgress}
use Rattle.replay.specs.Scan.{OpeningAt, openings_from}
use Rattle.replay.specs.Seeking.{found_item, found_end, found_beyond, rewound_cursor, next_found, cursor_after, hands_out, unsound_after, take_opening, tape_replay}
use Rattle.replay.specs.declared.cursor.ReplayCursor.{ReplayCursor}
use Rattle.replay.specs.declared.found.Found.{Found}
use Rattle.replay.specs.declared.found.Found.TheVariants as found
use Rattle.replay.specs.declared.place.TapePlace.{TapePlace}
use Rattle.replay.specs.declared.unlocated.UnlocatedNumber.{UnlocatedNumber}
use Rattle.replay.specs.declared.unlocated.UnsoundOpening.{UnsoundOpening}
use Rattle.replay.proofs.Counts.{finds-item, moves-item, is-after, item_fewer}
use Rattle.replay.proofs.FoundThings.{next_finds}
use Rattle.replay.proofs.Replaying.{awaits, Tells, seek-tells, after-item}
use Rattle.replay.proofs.SoundCopies.{opening_of}
use Rattle.shelf.specs.Shelf.{ShelfRow, row_of, is_mark, rows_from}
use Rattle.shelf.specs.Survey.{tape_shelf, replay_from, listed_from, shelf_from, next_row, GoesFurther, PutOver}

-- a replay that had handed out `out` before
abbrev with : List Numbered → ReplayState → ReplayState
with out (expecting xs n b) = expecting (out ++ xs) n b
with out (not_located xs n p) = not_located (out ++ xs) n p

abbrev pub with_more : List Numbered → ReplayProgress → ReplayProgress
with_more out r = record { state = with out r.state; unsound = r.unsound }

-- goes on as it does without
advance-with : (out : List Numbered) (s : ReplayState) (f : CopyAt) → advance (with out s) f ≡ with out (advance s f)
advance-with out (not_located xs n p) f = refl
advance-with out (expecting xs n b) f = go (ltb f.item.number n) (eqb f.item.number n) (eqb f.item.number (suc n))
  where
    go : (x y z : Bool) →
        cond x (expecting (out ++ xs) n b) (cond y (expecting ((out ++ xs) ++ (f.item ∷ [])) (suc n) false) (cond z (expecting (out ++ xs) n true) (not_located (out ++ xs) n f.place)))
        ≡ with out (cond x (expecting xs n b) (cond y (expecting (xs ++ (f.item ∷ [])) (suc n) false) (cond z (expecting xs n true) (not_located xs n f.place))))
    go true y z = refl
    go false true z = ap (λ (l : List Numbered). expecting l (suc n) false) (append_assoc out xs (f.item ∷ []))
    go false false true = refl
    go false false false = refl

hands-with : (out : List Numbered) (s : ReplayState) (f : CopyAt) → hands_out (with out s) f ≡ hands_out s f
hands-with out (expecting xs n b) f = refl
hands-with out (not_located xs n p) f = refl

unsound-with : (out : List Numbered) (s : ReplayState) (u : Option UnsoundOpening) (w : UnsoundOpening) → unsound_after (with out s) u w ≡ unsound_after s u w
unsound-with out (expecting xs n b) u w = refl
unsound-with out (not_located xs n p) u w = refl

take-with : (out : List Numbered) (r : ReplayProgress) (o : OpeningAt) → take_opening (with_more out r) o ≡ with_more out (take_opening r o)
take-with out r o = go o.reads
  where
    go : (x : Result Numbered CopyFault) → take_opening (with_more out r) (opening_of o.place x) ≡ with_more out (take_opening r (opening_of o.place x))
    go (Err e) = ap (λ (u : Option UnsoundOpening). record { state = with out r.state; unsound = u }) (unsound-with out r.state r.unsound (record { place = o.place; cause = e }))
    go (Ok i) =
        ap (λ (s : ReplayState). record { state = s; unsound = cond (hands_out (with out r.state) (placed o.place i)) None r.unsound }) (advance-with out r.state (placed o.place i)) ∙
        ap (λ (b : Bool). record { state = with out (advance r.state (placed o.place i)); unsound = cond b None r.unsound }) (hands-with out r.state (placed o.place i))

fold-with : (out : List Numbered) (r : ReplayProgress) (os : List OpeningAt) → fold take_opening (with_more out r) os ≡ with_more out (fold take_opening r os)
fold-with out r [] = refl
fold-with out r (o ∷ os) = ap (λ (z : ReplayProgress). fold take_opening z os) (take-with out r o) ∙ fold-with out (take_opening r o) os

-- one item more, with n blocks of the file under way, which began at f
module _ (f n : ℕ) (i : Numbered) where
  abbrev pub first : ℕ
  first = cond (eqb n 0) i.number f

  listed_block : is_mark i.content ≡ false → (r : ReplayProgress) → listed_from f n (with_more (i ∷ []) r) ≡ listed_from first (suc n) r
  listed_block b r = go r.state
    where
      go : (s : ReplayState) → listed_from f n (with_more (i ∷ []) (record { state = s; unsound = r.unsound })) ≡ listed_from first (suc n) (record { state = s; unsound = r.unsound })
      go (expecting xs m p) = ap Ok (cond-false (is_mark i.content) (row_of first n true ∷ rows_from 0 0 xs) (rows_from first (suc n) xs) b)
      go (not_located xs m p) = refl

  listed_mark : is_mark i.content ≡ true → (r : ReplayProgress) → listed_from f n (with_more (i ∷ []) r) ≡ mapped_ok (λ list. row_of first n true ∷ list) (listed_from 0 0 r)
  listed_mark b r = go r.state
    where
      go : (s : ReplayState) → listed_from f n (with_more (i ∷ []) (record { state = s; unsound = r.unsound })) ≡ mapped_ok (λ list. row_of first n true ∷ list) (listed_from 0 0 (record { state = s; unsound = r.unsound }))
      go (expecting xs m p) = ap Ok (cond-true (is_mark i.content) (row_of first n true ∷ rows_from 0 0 xs) (rows_from first (suc n) xs) b)
      go (not_located xs m p) = refl

-- next finds an item
module _ (c : Tape) (h : OfCartridge c) (k k' : ReplayCursor) (g : CopyAt) (e : found_item g ≡ next_found c k) (a : k' ≡ cursor_after k (next_found c k)) where
  from-item : replay_from c k ≡ with_more (g.item ∷ []) (replay_from c k')
  from-item =
      let t : Tells [] k.expected (awaits [] k.expected false None) (openings_from c k.from) (found_item g) =
      subst (Tells [] k.expected (awaits [] k.expected false None) (openings_from c k.from)) (sym e) (seek-tells [] k.expected false None (openings_from c k.from)) in
      let past : ReplayCursor = record { expected = suc k.expected; from = place_on g.place.on (g.place.at + body_cells) } in
      t.1 ∙ (ap (fold take_opening (awaits (g.item ∷ []) (suc k.expected) false None)) (after-item c h k.from g t.0) ∙
      (fold-with (g.item ∷ []) (awaits [] (suc k.expected) false None) (openings_from c past.from) ∙ ap (λ (z : ReplayCursor). with_more (g.item ∷ []) (replay_from c z)) (is-after c h k k' g e a)))

  pub block_filed : (f n : ℕ) → is_mark g.item.content ≡ false → listed_from f n (replay_from c k) ≡ listed_from (first f n g.item) (suc n) (replay_from c k')
  block_filed f n b = ap (listed_from f n) from-item ∙ listed_block f n g.item b (replay_from c k')

  pub mark_filed : (f n : ℕ) → is_mark g.item.content ≡ true → listed_from f n (replay_from c k) ≡ mapped_ok (λ list. row_of (first f n g.item) n true ∷ list) (shelf_from c k')
  mark_filed f n b = ap (listed_from f n) from-item ∙ listed_mark f n g.item b (replay_from c k')

  pub goes_further : GoesFurther c k k'
  goes_further =
      let w : FindsItem c k.expected k.from g = subst (Finds c k.expected k.from) (sym e) (next_finds c h k) in
      let n : k'.expected ≡ suc k.expected = ap (λ (z : ReplayCursor). z.expected) (sym (is-after c h k k' g e a)) in
      record { fewer = item_fewer c h k k' g e a; greater = omega arith; most = omega (arith, w.number, w.sound.proper.most) }

-- next finds the end, or a number beyond
module _ (c : Tape) (k : ReplayCursor) (f n : ℕ) where
  pub end_filed : (passed : Bool) → found_end passed ≡ next_found c k → listed_from f n (replay_from c k) ≡ Ok (rows_from f n [])
  end_filed passed e =
      let t : Tells [] k.expected (awaits [] k.expected false None) (openings_from c k.from) (found_end passed) =
      subst (Tells [] k.expected (awaits [] k.expected false None) (openings_from c k.from)) (sym e) (seek-tells [] k.expected false None (openings_from c k.from)) in
      ap (listed_from f n) t.1

  pub beyond_filed : (w : UnlocatedNumber) → found_beyond w ≡ next_found c k → listed_from f n (replay_from c k) ≡ Err w
  beyond_filed w e =
      let t : Tells [] k.expected (awaits [] k.expected false None) (openings_from c k.from) (found_beyond w) =
      subst (Tells [] k.expected (awaits [] k.expected false None) (openings_from c k.from)) (sym e) (seek-tells [] k.expected false None (openings_from c k.from)) in
      ap (listed_from f n) t

-- the file under way: where it began, and how many blocks it has
abbrev pub began_at : Option ShelfRow → ℕ
began_at None = 0
began_at (Some r) = r.first

abbrev pub blocks_of : Option ShelfRow → ℕ
blocks_of None = 0
blocks_of (Some r) = r.count

-- some blocks were taken since the cursor k, which is now k'
pub record Begun (c : Tape) (k k' : ReplayCursor) (r : ShelfRow) : Type 0 where
  pub further : GoesFurther c k k'
  pub some : 0 < r.count
  pub few : r.count ≤ k'.expected
  pub unclosed : r.closed ≡ false

abbrev pub UnderWay : Tape → ReplayCursor → ReplayCursor → Option ShelfRow → Type 0
UnderWay c k k' None = k' ≡ k
UnderWay c k k' (Some r) = Begun c k k' r

-- what is left gives the rows that were to be found
pub record Filing (c : Tape) (k k' : ReplayCursor) (file : Option ShelfRow) : Type 0 where
  pub is : shelf_from c k ≡ listed_from (began_at file) (blocks_of file) (replay_from c k')
  pub way : UnderWay c k k' file

pub filing_start : (c : Tape) (k : ReplayCursor) → Filing c k k None
filing_start c k = record { is = refl; way = refl }

-- it goes on from k1 to k2
further_on : (c : Tape) (k k1 k2 : ReplayCursor) (file : Option ShelfRow) → UnderWay c k k1 file → GoesFurther c k1 k2 → GoesFurther c k k2
further_on c k k1 k2 None w g = subst (λ (z : ReplayCursor). GoesFurther c z k2) w g
further_on c k k1 k2 (Some r) w g = record { fewer = omega (arith, w.further.fewer, g.fewer); greater = omega (arith, w.further.greater, g.greater); most = g.most }

few_blocks : (c : Tape) (k k1 : ReplayCursor) (file : Option ShelfRow) → UnderWay c k k1 file → blocks_of file ≤ k1.expected
few_blocks c k k1 None w = omega arith
few_blocks c k k1 (Some r) w = w.few

-- the row of a file when the item of the number n is next
begun : (c : Tape) (k k1 : ReplayCursor) (file : Option ShelfRow) (row : ShelfRow) (n : ℕ) → UnderWay c k k1 file → row ≡ unwrap_or file (row_of n 0 false) → row ≡ row_of (cond (eqb (blocks_of file) 0) n (began_at file)) (blocks_of file) false
begun c k k1 None row n w e = e
begun c k k1 (Some r) row n w e =
    let f : cond (eqb r.count 0) n r.first ≡ r.first = cond-false (eqb r.count 0) n r.first (ne_eqb r.count 0 (λ z. omega (arith, w.some))) in
    e ∙ (ap (λ (b : Bool). row_of r.first r.count b) w.unclosed ∙ ap (λ (m : ℕ). row_of m r.count false) (sym f))

-- next finds an item
module _ (c : Tape) (h : OfCartridge c) (k k1 : ReplayCursor) (x : Found) (p : TapePlace) (i : Item) (k2 : ReplayCursor) (is : x ≡ found.Item p i k2) (m : found_by (Ok x) ≡ next_found c k1) (a : goes_on k1 (Ok x) ≡ cursor_after k1 (next_found c k1)) where
  finds : found_item (placed p (held i)) ≡ next_found c k1
  finds = finds-item c k1 x m p i k2 is

  moves : k2 ≡ cursor_after k1 (next_found c k1)
  moves = moves-item c k1 x m p i k2 is a

  pub steps_on : GoesFurther c k1 k2
  steps_on = goes_further c h k1 k2 (placed p (held i)) finds moves

  module _ (file : Option ShelfRow) (w : Filing c k k1 file) (row : ShelfRow) (n : ℕ) (e : n ≡ i.number) (b : row ≡ unwrap_or file (row_of n 0 false)) where
    pub few : row.count + 1 ≤ 1048576
    few = omega (arith, ap (λ (z : ShelfRow). z.count) (begun c k k1 file row n w.way b), few_blocks c k k1 file w.way, steps_on.greater, steps_on.most)

    pub moves_further : GoesFurther c k k2
    moves_further = further_on c k k1 k2 file w.way steps_on

    row-is : row_of (first (began_at file) (blocks_of file) (held i)) (blocks_of file) false ≡ row
    row-is = sym (begun c k k1 file row n w.way b ∙ ap (λ (z : ℕ). row_of (cond (eqb (blocks_of file) 0) z (began_at file)) (blocks_of file) false) e)

    module _ (found-content : Content) (y : found-content ≡ i.content) where
      -- a block
      pub block_next : is_mark found-content ≡ false → Filing c k k2 (Some (row_of row.first (row.count + 1) row.closed))
      block_next q =
          let one : suc (blocks_of file) ≡ blocks_of file + 1 = omega arith in
          let there = block_filed c h k1 k2 (placed p (held i)) finds moves (began_at file) (blocks_of file) (ap is_mark (sym y) ∙ q) in
          subst (λ (z : ShelfRow). Filing c k k2 (Some (row_of z.first (z.count + 1) z.closed))) row-is (record {
            is = w.is ∙ (there ∙ ap (λ (z : ℕ). listed_from (first (began_at file) (blocks_of file) (held i)) z (replay_from c k2)) one);
            way = record { further = moves_further; some = omega arith; few = omega (arith, few_blocks c k k1 file w.way, steps_on.greater); unclosed = refl };
          })

      -- a mark
      pub mark_next : is_mark found-content ≡ true → shelf_from c k ≡ mapped_ok (λ list. row_of row.first row.count true ∷ list) (shelf_from c k2)
      mark_next q =
          subst (λ (z : ShelfRow). shelf_from c k ≡ mapped_ok (λ list. row_of z.first z.count true ∷ list) (shelf_from c k2)) row-is
          (w.is ∙ mark_filed c h k1 k2 (placed p (held i)) finds moves (began_at file) (blocks_of file) (ap is_mark (sym y) ∙ q))

-- the end, or a number beyond
module _ (c : Tape) (k k1 : ReplayCursor) where
  pub last_row : (file : Option ShelfRow) → Filing c k k1 file → (passed : Bool) → found_end passed ≡ next_found c k1 → shelf_from c k ≡ next_row (Ok file) (shelf_from c k1)
  last_row None w passed e = w.is ∙ end_filed c k1 0 0 passed e
  last_row (Some r) w passed e =
      let is : row_of r.first r.count false ≡ r = ap (λ (b : Bool). row_of r.first r.count b) (sym w.way.unclosed) in
      let one : cond (eqb r.count 0) [] (row_of r.first r.count false ∷ []) ≡ r ∷ [] =
      cond-false (eqb r.count 0) [] (row_of r.first r.count false ∷ []) (ne_eqb r.count 0 (λ z. omega (arith, w.way.some))) ∙ ap (λ (z : ShelfRow). z ∷ []) is in
      w.is ∙ (end_filed c k1 r.first r.count passed e ∙ (ap Ok one ∙ sym (ap (mapped_ok (λ list. r ∷ list)) (end_filed c k1 0 0 passed e))))

  pub last_further : (file : Option ShelfRow) → Filing c k k1 file → IfSome file (λ _. GoesFurther c k k1)
  last_further None w = tt
  last_further (Some r) w = w.way.further

  pub last_ended : (file : Option ShelfRow) → (passed : Bool) → found_end passed ≡ next_found c k1 → IfSome file (λ r. r.closed ≡ false → shelf_from c k1 ≡ Ok [])
  last_ended None passed e = tt
  last_ended (Some r) passed e = λ _. end_filed c k1 0 0 passed e

  pub beyond_row : (file : Option ShelfRow) → Filing c k k1 file → (v : UnlocatedNumber) → found_beyond v ≡ next_found c k1 → shelf_from c k ≡ Err v
  beyond_row file w v e = w.is ∙ beyond_filed c k1 (began_at file) (blocks_of file) v e

-- one row more is put there
put_one : (list before rows : List ShelfRow) (r : ShelfRow) → PutOver list before rows → PutOver (list ++ (r ∷ [])) before (set rows (length list) r)
put_one list before rows r p few =
    let l : length (list ++ (r ∷ [])) ≡ length list + 1 = length-append list (r ∷ []) in
    let at : length list < length before = omega arith in
    ap (λ (z : List ShelfRow). set z (length list) r) (p (omega arith) ∙ ap (λ (z : List ShelfRow). list ++ z) (drop_more before (length list) r at)) ∙
    (set_at list (get_or before (length list) r) (drop (length list + 1) before) r (length list) refl ∙
    (sym (append_assoc list (r ∷ []) (drop (length list + 1) before)) ∙ ap (λ (m : ℕ). (list ++ (r ∷ [])) ++ drop m before) (sym l)))

-- the first rows of a tape are put there, and its others come from the cursor k on
pub record Listing (c : Tape) (before : List ShelfRow) (k : ReplayCursor) (filed : ℕ) (rows : List ShelfRow) : Type 0 where
  pub done : List ShelfRow
  pub is : tape_shelf c ≡ mapped_ok (λ list. done ++ list) (shelf_from c k)
  pub count : length done ≡ filed
  pub few : filed < k.expected
  pub most : k.expected ≤ 1048576
  pub put : PutOver done before rows

pub listing_start : (c : Tape) (rows : List ShelfRow) → Listing c rows rewound_cursor 0 rows
unfolding tape_replay
listing_start c rows = record { done = []; is = same (shelf_from c rewound_cursor); count = refl; few = omega arith; most = omega arith; put = λ _. refl }
  where
    same : (x : Result (List ShelfRow) UnlocatedNumber) → x ≡ mapped_ok (λ list. [] ++ list) x
    same (Ok l) = refl
    same (Err w) = refl

module _ (c : Tape) (before : List ShelfRow) (k : ReplayCursor) (filed : ℕ) (rows : List ShelfRow) (w : Listing c before k filed rows) where
  -- one row more
  pub listing_more : (k' : ReplayCursor) (r : ShelfRow) → shelf_from c k ≡ mapped_ok (λ list. r ∷ list) (shelf_from c k') → GoesFurther c k k' → Listing c before k' (filed + 1) (set rows filed r)
  listing_more k' r e g = record {
    done = w.done ++ (r ∷ []);
    is = w.is ∙ (ap (mapped_ok (λ list. w.done ++ list)) e ∙ longer (shelf_from c k'));
    count = omega (arith, length-append w.done (r ∷ []), w.count);
    few = omega (arith, w.few, g.greater);
    most = g.most;
    put = subst (λ (m : ℕ). PutOver (w.done ++ (r ∷ [])) before (set rows m r)) w.count (put_one w.done before rows r w.put);
  }
    where
      longer : (x : Result (List ShelfRow) UnlocatedNumber) → mapped_ok (λ list. w.done ++ list) (mapped_ok (λ list. r ∷ list) x) ≡ mapped_ok (λ list. (w.done ++ (r ∷ [])) ++ list) x
      longer (Ok l) = ap Ok (sym (append_assoc w.done (r ∷ []) l))
      longer (Err v) = refl

  -- one row more, and it is the last
  pub listing_last : (r : ShelfRow) → shelf_from c k ≡ Ok (r ∷ []) → IfOk (tape_shelf c) (λ list. PutOver list before (set rows filed r))
  listing_last r e =
      subst (λ (x : Result (List ShelfRow) UnlocatedNumber). IfOk x (λ list. PutOver list before (set rows filed r))) (sym (w.is ∙ ap (mapped_ok (λ list. w.done ++ list)) e))
      (subst (λ (m : ℕ). PutOver (w.done ++ (r ∷ [])) before (set rows m r)) w.count (put_one w.done before rows r w.put))
