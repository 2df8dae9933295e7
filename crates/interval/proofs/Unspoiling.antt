-- Runs of cells to one track of a medium that spoils nothing, one after the other.
use Rattle.std.proofs.Common.{ℕ, ◌<◌, List, [], ◌++◌, length, set, sym, ap, ◌∙◌}
use Rattle.std.proofs.lemmas.List.{append-nil, append_assoc, set-set, set-get_or}
use Rattle.tape.specs.Tape.{Tape, track, run}
use Rattle.tape.specs.Stores.{Unspoiled}
use Rattle.tape.proofs.Tapes.{unspoiled_track}

pub unspoiled_none : (t : ℕ) (a : Tape) → t < length a → Unspoiled (run t []) a a
unspoiled_none t a h = record { there = h; is = sym (ap (set a t) (append-nil (track a t)) ∙ set-get_or a t []) }

pub unspoiled_then : (t : ℕ) (xs ys : List ℕ) (a b c : Tape) → Unspoiled (run t xs) a b → Unspoiled (run t ys) b c → Unspoiled (run t (xs ++ ys)) a c
unspoiled_then t xs ys a b c f g = record {
  there = f.there;
  is =
      g.is ∙ ap (λ (e : Tape). set e t (track b t ++ ys)) f.is ∙ set-set a t (track a t ++ xs) (track b t ++ ys)
      ∙ ap (λ (x : List ℕ). set a t (x ++ ys)) (unspoiled_track (run t xs) a b f)
      ∙ ap (set a t) (append_assoc (track a t) xs ys);
}
