-- An interval store of which the bytes of one track were lent, and cells were added to them.
use Rattle.std.proofs.Common.{◌≡◌, ℕ, ◌+◌, ◌*◌, ◌<◌, ◌≤◌, List, map, length, take, drop, sym, ap, ◌∙◌, subst, arith, length-drop}
use borrow.Rule.Slice.PartMut.{put_mid}
use Rattle.std.specs.Vec.{with_items}
use Rattle.std.proofs.lemmas.List.{with_items_is, length-map, length-take-le}
use Rattle.tape.specs.Tape.{cell}
use Rattle.interval.specs.Intervals.{state_of}
use Rattle.interval.specs.Gaps.{Spelled}
use Rattle.interval.specs.declared.interval.IntervalStore.{IntervalStore}
use Rattle.interval.specs.declared.interval.track.Fill.{Fill}
use Rattle.interval.specs.declared.interval.track.TrackState.{TrackState}
use Rattle.interval.proofs.IntervalGrowth.{Grew, grew, length-rewritten}
use Rattle.interval.proofs.StrideSteps.{row_before}

-- the k bytes from base on are the track's; these are ys then
module _ (s : IntervalStore) (t base k : ℕ) (old : TrackState) (new : Fill) (slice ys sent : List ℕ)
    (there : t < s.sizes.tracks) (was : old ≡ state_of s.states t) (fits : (state_of s.states t).cells + length sent ≤ s.sizes.capacity)
    (from : base ≡ t * s.sizes.capacity) (wide : k ≡ s.sizes.capacity) (lent : slice ≡ s.memory.items)
    (add : Spelled old.fill (take k (drop base slice)) (map cell sent) ys new) (long : length ys ≡ length (take k (drop base slice))) where
  part_is : take k (drop base slice) ≡ take s.sizes.capacity (drop (t * s.sizes.capacity) s.memory.items)
  part_is = ap (λ (n : ℕ). take n (drop base slice)) wide ∙ ap (λ (n : ℕ). take s.sizes.capacity (drop n slice)) from ∙ ap (λ (x : List ℕ). take s.sizes.capacity (drop (t * s.sizes.capacity) x)) lent

  part_fits : t * s.sizes.capacity + s.sizes.capacity ≤ length s.memory.items
  part_fits = omega (arith, s.enough, s.memory.ok.0, row_before s.sizes.capacity t s.sizes.tracks there)

  part_long : length ys ≡ s.sizes.capacity
  part_long = long ∙ ap length part_is ∙ length-take-le s.sizes.capacity (drop (t * s.sizes.capacity) s.memory.items) (omega (arith, length-drop (t * s.sizes.capacity) s.memory.items, part_fits))

  now_is : put_mid base k slice ys ≡ put_mid (t * s.sizes.capacity) s.sizes.capacity s.memory.items ys
  now_is = ap (λ (n : ℕ). put_mid base n slice ys) wide ∙ ap (λ (n : ℕ). put_mid n s.sizes.capacity slice ys) from ∙ ap (λ (x : List ℕ). put_mid (t * s.sizes.capacity) s.sizes.capacity x ys) lent

  items_now : (with_items s.memory (put_mid base k slice ys)).items ≡ put_mid (t * s.sizes.capacity) s.sizes.capacity s.memory.items ys
  items_now = with_items_is s.memory (put_mid base k slice ys) (ap length now_is ∙ length-rewritten s.memory.items ys s.sizes.capacity t part_fits part_long ∙ sym s.memory.ok.0) ∙ now_is

  added : Spelled (state_of s.states t).fill (take s.sizes.capacity (drop (t * s.sizes.capacity) s.memory.items)) (map cell sent) ys new
  added = subst (λ (x : List ℕ). Spelled (state_of s.states t).fill x (map cell sent) ys new) part_is
      (subst (λ (i : TrackState). Spelled i.fill (take k (drop base slice)) (map cell sent) ys new) was add)

  pub put_grew : Grew s.memory.items (with_items s.memory (put_mid base k slice ys)).items s.sizes.capacity t (state_of s.states t).fill new (map cell sent)
  put_grew =
      let r = s.rule t in
      subst (λ (e : List ℕ). Grew s.memory.items e s.sizes.capacity t (state_of s.states t).fill new (map cell sent)) (sym items_now)
      (grew s.memory.items ys s.sizes.capacity t part_fits part_long (state_of s.states t).fill new (map cell sent) (omega (arith, r.1, length-map sent cell)) added)
