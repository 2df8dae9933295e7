-- Runs that a medium takes one after the other.
use Rattle.std.specs.Prelude.{◌≡◌, ℕ, ◌+◌, List, [], ◌∷◌, ◌++◌, length, ◌≢◌, refl}
use Rattle.std.proofs.Common.{sym, ap, subst, ◌∙◌, append_assoc, append-nil, arith, length-append}
use Rattle.std.specs.List.{flat_map, AllByRecursion}
use Rattle.tape.specs.Tape.{Tape, track, Run, Longer, Sends, Grown}
use Rattle.tape.specs.Sheets.{Passes}
use Rattle.tape.specs.declared.flaw.Flaw.{Flaw}
use Rattle.tape.specs.Covering.{length_masked}

-- one run more at the end
pub sends_one : {S : Type 0} (takes : S → Run → S → Type 0) (s m e : S) (rs : List Run) (r : Run) → Sends takes s rs m → takes m r e → Sends takes s (rs ++ (r ∷ [])) e
sends_one takes s m e [] r h k = (e, subst (λ z. takes z r e) h k, refl)
sends_one takes s m e (q ∷ rs) r (n, a, b) k = (n, a, sends_one takes n m e rs r b k)

pub sends_keep : {S : Type 0} (takes : S → Run → S → Type 0) (room : S → ℕ) → ((s : S) (r : Run) (e : S) → takes s r e → room e ≡ room s)
    → (rs : List Run) (s e : S) → Sends takes s rs e → room e ≡ room s
sends_keep takes room keeps [] s e h = ap room h
sends_keep takes room keeps (r ∷ rs) s e (m, a, b) = sends_keep takes room keeps rs m e b ∙ keeps s r m a

-- the cells grow by the same runs
pub sends_grow : {S : Type 0} (cells : S → Tape) (takes : S → Run → S → Type 0) → ((s : S) (r : Run) (e : S) → takes s r e → Longer r (cells s) (cells e))
    → (rs : List Run) (s e : S) → Sends takes s rs e → Grown (cells s) rs (cells e)
sends_grow cells takes grows [] s e h = ap cells h
sends_grow cells takes grows (r ∷ rs) s e (m, a, b) = (cells m, grows s r m a, sends_grow cells takes grows rs m e b)

-- n cells more on the track t, and the rest as it was
pub record Added (t n : ℕ) (before after : Tape) : Type 0 where
  pub added : List ℕ
  pub count : length added ≡ n
  pub is : track after t ≡ track before t ++ added
  pub others : (u : ℕ) → (u ≢ t) → track after u ≡ track before u
  pub tracks : length after ≡ length before

added_none : (t : ℕ) (a : Tape) → Added t 0 a a
added_none t a = record { added = []; count = refl; is = sym (append-nil (track a t)); others = λ u n. refl; tracks = refl }

added_more : (t m n : ℕ) (r : Run) (a b c : Tape) → r.on ≡ t → m ≡ length r.sent → Longer r a b → Added t n b c → Added t (m + n) a c
added_more t m n r a b c e l f g = record {
  added = f.added ++ g.added;
  count = length-append f.added g.added ∙ omega (arith, f.count, g.count);
  is = g.is ∙ (ap (λ (x : List ℕ). x ++ g.added) (subst (λ (u : ℕ). track b u ≡ track a u ++ f.added) e f.is) ∙ append_assoc (track a t) f.added g.added);
  others = λ u n. g.others u n ∙ f.others u (λ h. n (h ∙ e));
  tracks = g.tracks ∙ f.tracks;
}

pub sends_add : {S : Type 0} (cells : S → Tape) (takes : S → Run → S → Type 0) → ((s : S) (r : Run) (e : S) → takes s r e → Longer r (cells s) (cells e))
    → (t : ℕ) (rs : List Run) (s e : S) → AllByRecursion (λ q. q.on ≡ t) rs → Sends takes s rs e → Added t (length (flat_map (λ q. q.sent) rs)) (cells s) (cells e)
sends_add cells takes grows t [] s e h k = subst (λ z. Added t 0 (cells s) (cells z)) (sym k) (added_none t (cells s))
sends_add cells takes grows t (r ∷ rs) s e (h, hs) (m, a, b) =
    subst (λ (n : ℕ). Added t n (cells s) (cells e)) (sym (length-append r.sent (flat_map (λ q. q.sent) rs)))
    (added_more t (length r.sent) (length (flat_map (λ q. q.sent) rs)) r (cells s) (cells m) (cells e) h refl (grows s r m a) (sends_add cells takes grows t rs m e hs b))

-- a sheet keeps the rules of every medium
pub passes_longer : {S : Type 0} (cells : S → Tape) (takes : S → Run → S → Type 0) → ((s : S) (r : Run) (e : S) → takes s r e → Longer r (cells s) (cells e))
    → (fs : List Flaw) (s : S) (r : Run) (e : S) → Passes cells takes fs s r e → Longer r (cells s) (cells e)
passes_longer cells takes grows fs s r e p =
    let a = sends_add cells takes grows r.on p.runs s e p.divided.on_track p.sends in record {
      there = p.there;
      added = a.added;
      count = a.count ∙ (ap length p.divided.together ∙ length_masked fs r.on (length (track (cells s) r.on)) r.sent);
      is = a.is;
      others = a.others;
      tracks = a.tracks;
    }
