use Rattle.std.proofs.Common.{ℕ, ◌+◌, length, refl, sym, ◌∙◌, ap, arith, length-set}
use Rattle.std.proofs.lemmas.List.{length-map}
use Rattle.tape.specs.Tape.{cell}
use Rattle.interval.specs.Intervals.{state_of}
use Rattle.interval.specs.declared.interval.track.TrackState.{TrackState}
use Rattle.interval.specs.IntervalLaws.{store_length}
use Rattle.interval.proofs.IntervalGrowth.{grew_tape, grew_rule, grew_noted, grew_held}
use Rattle.interval.proofs.IntervalPuts.{put_grew}
use Rattle.interval.proofs.interval.IntervalStore.put_part.Goals as goal

pub note-requires : goal.note-requires
note-requires c =
    let s = c.args.self.now in
    let r = s.rule c.args.at in
    let was = ap (λ (r : TrackState). r.fill.used + r.fill.zeros) c.state-cells.ensures in
    omega (arith, was, r.0, r.1, c.requires.fits, s.sizes.small, c.add_cells-fill.ensures.few, length-map c.args.sent.now cell)

pub invariant_of-self : goal.invariant_of-self
invariant_of-self c =
    let s = c.args.self.now in
    let t = c.args.at in
    let was = ap (λ (r : TrackState). r.cells + length c.args.sent.now) c.state-cells.ensures in
    let more = was ∙ sym (ap (λ (n : ℕ). (state_of s.states t).cells + n) (length-map c.args.sent.now cell)) in
    let grown = put_grew s t c.track_row-row.result.start _ c.state-cells.result c.add_cells-fill.result c.deref_mut.result.now c.add_cells-fill.new.bytes c.args.sent.now
    c.requires.there c.state-cells.ensures c.requires.fits c.track_row-row.ensures.start (omega arith) c.deref_mut.ensures.value c.add_cells-fill.ensures c.add_cells-fill.auto.bytes in
    record {
      enough = s.enough;
      nine = length-set s.states c.from.result _ ∙ s.nine;
      rule = grew_rule s _ t c.from.result _ _ c.requires.there c.from.ensures more (omega (arith, was, c.requires.fits)) grown;
      noted = grew_noted s _ t c.from.result _ _ c.requires.there c.from.ensures more (omega (arith, was, c.requires.fits)) grown
          c.mark_ahead-mark.result.number _ _ c.note.ensures.used c.note.ensures.zeros (omega (arith, was, c.requires.step)) c.mark_ahead-mark.ensures;
      held = grew_held s _ t c.from.result _ _ c.requires.there c.from.ensures more (omega (arith, was, c.requires.fits)) grown
          c.mark_ahead-mark.result.number _ _ c.note.ensures.used c.note.ensures.zeros (omega (arith, was, c.requires.step)) c.mark_ahead-mark.ensures;
    }

pub returns-clause-takes : goal.returns-clause-takes
returns-clause-takes c =
    let s = c.args.self.now in
    let was = ap (λ (r : TrackState). r.cells + length c.args.sent.now) c.state-cells.ensures in
    let more = was ∙ sym (ap (λ (n : ℕ). (state_of s.states c.args.at).cells + n) (length-map c.args.sent.now cell)) in
    let grown = put_grew s c.args.at c.track_row-row.result.start _ c.state-cells.result c.add_cells-fill.result c.deref_mut.result.now c.add_cells-fill.new.bytes c.args.sent.now
    c.requires.there c.state-cells.ensures c.requires.fits c.track_row-row.ensures.start (omega arith) c.deref_mut.ensures.value c.add_cells-fill.ensures c.add_cells-fill.auto.bytes in (
      record {
        there = omega (arith, c.requires.there, store_length s);
        is = grew_tape s _ c.args.at c.from.result _ _ c.requires.there c.from.ensures more (omega (arith, was, c.requires.fits)) grown;
      },
      refl,
    )
