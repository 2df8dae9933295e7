-- The parts of a run that a sheet has sent on so far.
use Rattle.std.proofs.Common.{◌≡◌, ℕ, ◌+◌, ◌<◌, ◌≤◌, List, [], ◌∷◌, ◌++◌, map, length, get_or, set, take, cond, sym, refl, ap, ◌∙◌, append_assoc, append-nil, arith, length-append}
use Rattle.std.specs.List.{flat_map, AllByRecursion}
use Rattle.std.proofs.ByRecursion.{All-push}
use Rattle.std.proofs.lemmas.Grind.{flat_map-append}
use Rattle.std.proofs.lemmas.List.{length-map, length-take-le, map-append, take_more, take_more_set}
use Rattle.tape.specs.Tape.{Tape, track, cell, Run, run, Longer, Sends}
use Rattle.tape.specs.Flaws.{under, masked, Clean}
use Rattle.tape.specs.Sheets.{Passes}
use Rattle.tape.specs.declared.flaw.Flaw.{Flaw}
use Rattle.tape.specs.Covering.{length_masked, masked_append, masked_clean}
use Rattle.tape.specs.Sendings.{sends_one, sends_keep, sends_add}

-- one cell more is masked
pub masked_more : (fs : List Flaw) (t p : ℕ) (sent out : List ℕ) (i v : ℕ) → i < length sent → i < length out → take i out ≡ masked fs t p (take i sent)
    → v ≡ cond (under fs t (p + i)) 0 (get_or sent i 0) → take (i + 1) (set out i v) ≡ masked fs t p (take (i + 1) sent)
masked_more fs t p sent out i v h k so_far is =
    let long : length (take i sent) ≡ i = length-take-le i sent (omega arith) in
    take_more_set out i v k
    ∙ (ap (λ (x : List ℕ). x ++ v ∷ []) so_far
    ∙ (ap (λ (w : ℕ). masked fs t p (take i sent) ++ w ∷ []) (is ∙ ap (λ (n : ℕ). cond (under fs t (p + n)) 0 (get_or sent i 0)) (sym long))
    ∙ sym (ap (masked fs t p) (take_more sent i 0 h) ∙ masked_append fs t p (take i sent) (get_or sent i 0 ∷ []))))

-- the cells before the rest, sent on from the medium s to the medium e
pub record SoFar {S : Type 0} (cells : S → Tape) (takes : S → Run → S → Type 0) (fs : List Flaw) (t : ℕ) (sent rest : List ℕ) (s e : S) : Type 0 where
  pub front : List ℕ
  pub parted : front ++ rest ≡ sent
  pub runs : List Run
  pub on_track : AllByRecursion (λ q. q.on ≡ t) runs
  pub together : flat_map (λ q. q.sent) runs ≡ masked fs t (length (track (cells s) t)) (map cell front)
  pub sends : Sends takes s runs e

module _ {S : Type 0} (cells : S → Tape) (takes : S → Run → S → Type 0) (grows : (s : S) (r : Run) (e : S) → takes s r e → Longer r (cells s) (cells e)) (fs : List Flaw) (t : ℕ) (sent rest : List ℕ) (s m : S) (f : SoFar cells takes fs t sent rest s m) where
  -- where that leaves the medium
  pub so_far_added : (length (track (cells m) t) ≡ length (track (cells s) t) + length f.front) × (length (cells m) ≡ length (cells s))
  so_far_added =
      let a = sends_add cells takes grows t f.runs s m f.on_track f.sends in
      let n : length (flat_map (λ q. q.sent) f.runs) ≡ length f.front = ap length f.together ∙ (length_masked fs t (length (track (cells s) t)) (map cell f.front) ∙ length-map f.front cell) in
      (ap length a.is ∙ (length-append (track (cells s) t) a.added ∙ ap (λ (k : ℕ). length (track (cells s) t) + k) (a.count ∙ n)), a.tracks)

  -- the part that comes next has room where all of them have
  pub so_far_fits : (part after : List ℕ) (room : S → ℕ) → ((s : S) (r : Run) (e : S) → takes s r e → room e ≡ room s) → rest ≡ part ++ after
      → length (track (cells s) t) + length sent ≤ room s → length (track (cells m) t) + length part ≤ room m
  so_far_fits part after room keeps is h =
      omega (arith, so_far_added.0, sends_keep takes room keeps f.runs s m f.sends, ap length f.parted, length-append f.front rest, ap length is, length-append part after)

  pub so_far_more : (part after : List ℕ) (e : S) → rest ≡ part ++ after → takes m (run t (masked fs t (length (track (cells m) t)) (map cell part))) e → SoFar cells takes fs t sent after s e
  so_far_more part after e is k =
      let p = length (track (cells s) t) in
      let place = length (track (cells m) t) in
      let r = run t (masked fs t place (map cell part)) in
      record {
        front = f.front ++ part;
        parted = append_assoc f.front part after ∙ (ap (λ (x : List ℕ). f.front ++ x) (sym is) ∙ f.parted);
        runs = f.runs ++ (r ∷ []);
        on_track = All-push (λ q. q.on ≡ t) f.runs r f.on_track refl;
        together =
            flat_map-append (λ q. q.sent) f.runs (r ∷ [])
            ∙ (ap (λ (x : List ℕ). flat_map (λ q. q.sent) f.runs ++ x) (append-nil r.sent)
            ∙ (ap (λ (x : List ℕ). x ++ masked fs t place (map cell part)) f.together
            ∙ (ap (λ (n : ℕ). masked fs t p (map cell f.front) ++ masked fs t n (map cell part)) (so_far_added.0 ∙ ap (λ (n : ℕ). p + n) (sym (length-map f.front cell)))
            ∙ (sym (masked_append fs t p (map cell f.front) (map cell part)) ∙ ap (masked fs t p) (sym (map-append cell f.front part))))));
        sends = sends_one takes s m e f.runs r f.sends k;
      }

-- all of them
pub so_far_all : {S : Type 0} (cells : S → Tape) (takes : S → Run → S → Type 0) (fs : List Flaw) (t : ℕ) (sent rest : List ℕ) (s e : S)
    → t < length (cells s) → rest ≡ [] → (Clean fs t (length (track (cells s) t)) (length sent) → ⊥)
    → SoFar cells takes fs t sent rest s e → Passes cells takes fs s (run t (map cell sent)) e
so_far_all cells takes fs t sent rest s e h none touched f =
    let all : f.front ≡ sent = sym (append-nil f.front) ∙ (ap (λ (x : List ℕ). f.front ++ x) (sym none) ∙ f.parted) in record {
      there = h;
      runs = f.runs;
      divided = record {
        on_track = f.on_track;
        together = f.together ∙ ap (λ (x : List ℕ). masked fs t (length (track (cells s) t)) (map cell x)) all;
        whole = λ c. absurd (touched (λ i k. c i (omega (arith, length-map sent cell))));
      };
      sends = f.sends;
    }

-- a run that no flaw touches, sent on as it is
pub passed_whole : {S : Type 0} (cells : S → Tape) (takes : S → Run → S → Type 0) (fs : List Flaw) (t : ℕ) (sent : List ℕ) (s e : S)
    → t < length (cells s) → Clean fs t (length (track (cells s) t)) (length sent) → takes s (run t (map cell sent)) e → Passes cells takes fs s (run t (map cell sent)) e
passed_whole cells takes fs t sent s e h clean k = record {
  there = h;
  runs = run t (map cell sent) ∷ [];
  divided = record {
    on_track = (refl, tt);
    together = append-nil (map cell sent) ∙ sym (masked_clean fs t (length (track (cells s) t)) (map cell sent) (λ i l. clean i (omega (arith, length-map sent cell))));
    whole = λ _. refl;
  };
  sends = (e, k, refl);
}
