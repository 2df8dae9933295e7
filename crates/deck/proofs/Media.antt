-- A cartridge of any kind, by its ghost members and laws, and what runs that are sent to it leave.
use Rattle.std.proofs.Common.{◌≡◌, ℕ, ◌≤◌, List, [], ◌∷◌, ◌++◌, length, subst}
use Rattle.std.specs.List.{AllByRecursion}
use Rattle.tape.specs.Tape.{Tape, track, Cell, Run, Longer, Sends, Grown}
use Rattle.tape.specs.Sendings.{sends_keep, sends_grow}
use Rattle.replay.specs.Copies.{OfCartridge}
use Rattle.replay.proofs.Growing.{Extends, grown_extends}

pub record Medium (S : Type 0) : Type 1 where
  pub cells : S → Tape
  pub room : S → ℕ
  pub takes : S → Run → S → Type 0
  pub few : (s : S) → length (cells s) ≤ 9
  pub binary : (s : S) (t : ℕ) → AllByRecursion Cell (track (cells s) t)
  pub grows : (s : S) (r : Run) (e : S) → takes s r e → Longer r (cells s) (cells e)
  pub keeps : (s : S) (r : Run) (e : S) → takes s r e → room e ≡ room s

pub sends-append : {S : Type 0} (takes : S → Run → S → Type 0) (xs ys : List Run) (s m e : S) → Sends takes s xs m → Sends takes m ys e → Sends takes s (xs ++ ys) e
sends-append takes [] ys s m e h k = subst (λ z. Sends takes z ys e) h k
sends-append takes (x ∷ xs) ys s m e (n, a, b) k = (n, a, sends-append takes xs ys n m e b k)

module _ {S : Type 0} (C : Medium S) where
  pub of_cartridge : (s : S) → OfCartridge (C.cells s)
  of_cartridge s = record { few = C.few s; binary = C.binary s }

  pub sent_grown : (rs : List Run) (s e : S) → Sends C.takes s rs e → Grown (C.cells s) rs (C.cells e)
  sent_grown rs s e h = sends_grow C.cells C.takes C.grows rs s e h

  pub sent_extends : (rs : List Run) (s e : S) → Sends C.takes s rs e → Extends (C.cells s) (C.cells e)
  sent_extends rs s e h = grown_extends rs (C.cells s) (C.cells e) (sent_grown rs s e h)

  pub sent-room : (rs : List Run) (s e : S) → Sends C.takes s rs e → C.room e ≡ C.room s
  sent-room rs s e h = sends_keep C.takes C.room C.keeps rs s e h
