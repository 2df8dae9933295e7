use Rattle.std.proofs.Common.{sym, ap, ◌∙◌}
use Rattle.qic24.specs.Copy.{held, item_from}
use Rattle.qic24.specs.Decode.{mapped_ok, number_in}
use Rattle.qic24.proofs.Judging.{judged-mixed, judged_check, judged_other, judged_control, made}
use Rattle.qic24.proofs.decoding.judge.Goals as goal

pub returns-then-is_mixed : goal.returns-then-is_mixed
returns-then-is_mixed c = sym (judged-mixed c.args.track c.args.groups.now.marks c.args.groups.now.bytes (sym c.if-is_mixed.ensures))

pub returns-then-crc-recorded_check : goal.returns-then-crc-recorded_check
returns-then-crc-recorded_check c =
    sym (judged_check c.args.track c.args.groups.now.marks c.args.groups.now.bytes (sym c.if-is_mixed.ensures)
    (λ e. c.if-crc-recorded_check.true (c.crc.ensures ∙ e ∙ sym c.recorded_check.ensures)))

pub returns-then-named-track : goal.returns-then-named-track
returns-then-named-track c =
    let k = sym c.crc.ensures ∙ c.if-crc-recorded_check.false ∙ c.recorded_check.ensures in
    sym (judged_other c.args.track c.args.groups.now.marks c.args.groups.now.bytes (sym c.if-is_mixed.ensures) k c.if-named-track.true)

pub returns-then-control-ne0 : goal.returns-then-control-ne0
returns-then-control-ne0 c =
    let k = sym c.crc.ensures ∙ c.if-crc-recorded_check.false ∙ c.recorded_check.ensures in
    sym (judged_control c.args.track c.args.groups.now.marks c.args.groups.now.bytes (sym c.if-is_mixed.ensures) k c.if-named-track.false c.if-control-ne0.true)

pub returns : goal.returns
returns c =
    let k = sym c.crc.ensures ∙ c.if-crc-recorded_check.false ∙ c.recorded_check.ensures in
    let j = made c.args.track c.args.groups.now.marks c.args.groups.now.bytes (sym c.if-is_mixed.ensures) k c.if-named-track.false c.if-control-ne0.false in
    ap (mapped_ok held) c.ok_or.ensures.value ∙ j c.new.result (rw (sym c.number.ensures.value) c.number.ensures.small) (c.new.ensures ∙ ap (λ n. item_from n c.content.result) c.number.ensures.value ∙ ap (item_from (number_in c.args.groups.now.bytes)) c.content.ensures)
