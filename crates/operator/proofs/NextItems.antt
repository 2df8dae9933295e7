-- Each item that next hands out leaves fewer openings.
use Rattle.std.proofs.Common.{◌≡◌, ℕ, ◌<◌, Bool, true, false, cond, ltb, List, length, Ok, refl, ap}
use Rattle.qic24.specs.declared.item.Content.{Content}
use Rattle.qic24.specs.declared.item.Content.TheVariants.{Block, Mark}
use Rattle.tape.specs.Tape.{Tape}
use Rattle.replay.specs.Copies.{OfCartridge}
use Rattle.replay.specs.Seeking.{FindResult, found_item, found_end, found_beyond, next_found, cursor_after}
use Rattle.replay.specs.declared.cursor.ReplayCursor.{ReplayCursor}
use Rattle.replay.proofs.Counts.{item_fewer}
use Rattle.deck.specs.Deck.{DeckState, deck_idle, deck_recording}
use Rattle.deck.specs.NextCall.{NextOutcome, handed, next_declined, next_by, next_does}
use Rattle.deck.specs.declared.refusal.Refusal.TheVariants.{WrongSize}
use Rattle.operator.specs.Advancing.{openings_left, Advances}

module _ (c : Tape) (h : OfCartridge c) (k : ReplayCursor) (buffer : List ℕ) where
  abbrev Advanced : NextOutcome → Type 0
  Advanced o = Advances o.answer (openings_left c k) (openings_left c o.cursor)

  by-content : (n : ℕ) (x : Content) (before after : ℕ) → after < before → Advances (Ok (handed n x)) before after
  by-content n (Block bs) before after h = h
  by-content n Mark before after h = h

  found-advanced : (f : FindResult) → f ≡ next_found c k → Advanced (next_by k buffer f)
  found-advanced (found_item f) e =
      by-content f.item.number f.item.content (openings_left c k) (openings_left c (cursor_after k (found_item f))) (item_fewer c h k (cursor_after k (found_item f)) f e (ap (cursor_after k) e))
  found-advanced (found_end passed) e = tt
  found-advanced (found_beyond w) e = tt

  sized-advanced : (small : Bool) → Advanced (cond small (next_declined WrongSize k buffer) (next_by k buffer (next_found c k)))
  sized-advanced true = tt
  sized-advanced false = found-advanced (next_found c k) refl

  pub next_advanced : (s : DeckState) → Advanced (next_does c k s buffer)
  next_advanced (deck_recording s p) = tt
  next_advanced deck_idle = sized-advanced (ltb (length buffer) 512)
