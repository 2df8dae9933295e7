-- Copies with normal preambles, one after the other on a track.
use Rattle.std.proofs.Common.{◌≡◌, ℕ, zero, suc, ◌+◌, ◌*◌, ◌<◌, ◌≤◌, List, [], ◌∷◌, length, sym, ap, ◌∙◌, subst, inr, arith, length-append}
use Rattle.qic24.specs.Copy.{Numbered, preamble_ones}
use Rattle.qic24.specs.declared.layout.Preamble.TheVariants.{Normal}
use Rattle.tape.specs.Tape.{Tape, track, Grown}
use Rattle.deck.specs.Measures.{normal_copy}
use Rattle.replay.specs.Copies.{body_cells, CopyAt, BeforeAll, Ascending, In, here, there}
use Rattle.replay.specs.declared.place.TapePlace.{TapePlace}
use Rattle.deck.specs.Rewriting.{rewritten, rewritten_with}
use Rattle.deck.specs.Deck.{copy_place, copy_runs}
use Rattle.deck.proofs.CopyLengths.{Full, length-copy}

-- on track t, the first at the k-th step from `from` on
abbrev pub Laid : ℕ → ℕ → ℕ → List CopyAt → Type 0
Laid t from k [] = Unit {0}
Laid t from k (f ∷ fs) = (f.place ≡ copy_place t from k) × Full f.item.content × Laid t from (suc k) fs

-- where each of them is
pub in_laid : (t from k : ℕ) (f : CopyAt) (fs : List CopyAt) → Laid t from k fs → In f fs → (f.place.on ≡ t) × (from + k * normal_copy ≤ f.place.at) × (f.place.at + body_cells ≤ from + (k + length fs) * normal_copy)
in_laid t from k f [] l i = elim i [ ]
in_laid t from k f (g ∷ fs) l here = (ap (λ (p : TapePlace). p.on) l.0, omega (arith, ap (λ (p : TapePlace). p.at) l.0), omega (arith, ap (λ (p : TapePlace). p.at) l.0))
in_laid t from k f (g ∷ fs) l (there i) =
    let h = in_laid t from (suc k) f fs l.2 i in
    (h.0, omega (arith, h.1), omega (arith, h.2))

laid_before : (t from k j : ℕ) (g : CopyAt) (fs : List CopyAt) → g.place ≡ copy_place t from k → k < j → Laid t from j fs → BeforeAll g fs
laid_before t from k j g [] e h l = tt
laid_before t from k j g (f ∷ fs) e h l = (
  inr (ap (λ (p : TapePlace). p.on) e ∙ sym (ap (λ (p : TapePlace). p.on) l.0), omega (arith, ap (λ (p : TapePlace). p.at) e, ap (λ (p : TapePlace). p.at) l.0)),
  laid_before t from k (suc j) g fs e (omega arith) l.2,
)

pub laid_ascending : (t from k : ℕ) (fs : List CopyAt) → Laid t from k fs → Ascending fs
laid_ascending t from k [] l = tt
laid_ascending t from k (f ∷ fs) l = (laid_before t from k (suc k) f fs l.0 (omega arith) l.2, laid_ascending t from (suc k) fs l.2)

-- what the tape has once they are sent
pub grow_laid : (t from k : ℕ) (fs : List CopyAt) (c e : Tape) → Laid t from k fs → length (track c t) ≡ from + k * normal_copy → Grown c (copy_runs fs) e → (length (track e t) ≡ from + (k + length fs) * normal_copy) × ((u : ℕ) → (u ≡ t → ⊥) → track e u ≡ track c u)
grow_laid t from k [] c e l h g = (ap (λ (x : Tape). length (track x t)) g ∙ (h ∙ omega arith), λ u d. ap (λ (x : Tape). track x u) g)
grow_laid t from k (f ∷ fs) c e l h (m, a, g) =
    let on-t : f.place.on ≡ t = ap (λ (p : TapePlace). p.on) l.0 in
    let grew : length (track m f.place.on) ≡ length (track c f.place.on) + normal_copy = ap length a.is ∙ (length-append (track c f.place.on) a.added ∙ ap (λ (n : ℕ). length (track c f.place.on) + n) (a.count ∙ length-copy (preamble_ones Normal) f.place.on f.item l.1)) in
    let here : length (track m t) ≡ length (track c t) + normal_copy = subst (λ (u : ℕ). length (track m u) ≡ length (track c u) + normal_copy) on-t grew in
    let r = grow_laid t from (suc k) fs m e l.2 (omega arith) g in
    (r.0 ∙ omega arith, λ u d. r.1 u d ∙ a.others u (λ q. d (q ∙ on-t)))

pub laid_rewritten : (t from : ℕ) (at : ℕ → TapePlace) (N : Numbered) (k c : ℕ) → ((j : ℕ) → at (suc j) ≡ copy_place t from j) → Full N.content → Laid t from k (rewritten at N (suc k) c)
laid_rewritten t from at N k zero h f = tt
laid_rewritten t from at N k (suc c) h f = (h k, f, laid_rewritten t from at N (suc k) c h f)

pub laid_rewritten_with : (t from : ℕ) (at to : ℕ → TapePlace) (N M : Numbered) (k j c : ℕ) → ((i : ℕ) → at (suc i) ≡ copy_place t from (suc (i + i))) → ((i : ℕ) → to (suc i) ≡ copy_place t from (suc (suc (i + i)))) → k ≡ suc (j + j) → Full N.content → Full M.content → Laid t from k (rewritten_with at to N M (suc j) c)
laid_rewritten_with t from at to N M k j zero p q e f g = tt
laid_rewritten_with t from at to N M k j (suc c) p q e f g =
    (p j ∙ ap (copy_place t from) (sym e), f, (q j ∙ ap (copy_place t from) (ap suc (sym e)), g, laid_rewritten_with t from at to N M (suc (suc k)) (suc j) c p q (omega arith) f g))
