-- What the odd cartridge keeps of the rules of every cartridge.
use Rattle.std.specs.Prelude.{◌≡◌, ℕ, zero, suc, ◌≤◌, List, [], ◌∷◌, ◌++◌, length, ◌≢◌, refl}
use Rattle.std.proofs.Common.{sym, ap, subst, ◌∙◌, arith}
use Rattle.std.specs.List.{AllByRecursion}
use Rattle.std.proofs.ByRecursion.{All-from_get_or}
use Rattle.tape.specs.Tape.{most_tracks, most_cells, track, Cell, Run, Longer}
use Rattle.oddtape.specs.Odd.{next, thinned}
use Rattle.oddtape.specs.OddTapes.{odd_tape, odd_room, OddTakes}
use Rattle.oddtape.specs.declared.odd.OddTape.{OddTape}

pub length_thinned : (n : ℕ) (xs : List ℕ) → length (thinned n xs) ≡ length xs
length_thinned n [] = refl
length_thinned n (x ∷ xs) = ap suc (length_thinned (next n x) xs)

module _ (s : OddTape) where
  pub odd_few : length (odd_tape s) ≤ most_tracks
  odd_few = omega arith

  pub odd_small : odd_room s ≤ most_cells
  odd_small = omega arith

  pub odd_empty : length (odd_tape s) ≡ 0 → odd_room s ≡ 0
  odd_empty e = absurd (omega arith)

  pub odd_inside : (t : ℕ) → length (track (odd_tape s) t) ≤ odd_room s
  odd_inside zero = s.inside
  odd_inside (suc t) = omega arith

  pub odd_binary : (t : ℕ) → AllByRecursion Cell (track (odd_tape s) t)
  odd_binary zero = All-from_get_or Cell s.cells.items 0 s.binary
  odd_binary (suc t) = tt

  pub odd_grows : (r : Run) (e : OddTape) → OddTakes s r e → Longer r (odd_tape s) (odd_tape e)
  odd_grows r e k = record {
    there = omega (arith, k.on);
    added = thinned s.ones.passed r.sent;
    count = length_thinned s.ones.passed r.sent;
    is = subst (λ (n : ℕ). track (odd_tape e) n ≡ track (odd_tape s) n ++ thinned s.ones.passed r.sent) (sym k.on) k.adds;
    others = λ t n. other t (λ h. n (h ∙ sym k.on));
    tracks = refl;
  }
    where
      other : (t : ℕ) → (t ≢ 0) → track (odd_tape e) t ≡ track (odd_tape s) t
      other zero n = absurd (n refl)
      other (suc t) n = refl

  pub odd_keeps : (r : Run) (e : OddTape) → OddTakes s r e → odd_room e ≡ odd_room s
  odd_keeps r e k = refl
