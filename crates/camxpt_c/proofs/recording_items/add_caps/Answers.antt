use Rattle.std.proofs.lemmas.Result.{err_from_is_err_and}
use Rattle.camxpt_c.proofs.RecordingLemmas.{caps_more, caps_all, no_fault_all, cap_right, cap_wrong}
use Rattle.camxpt_c.proofs.recording_items.add_caps.Goals as goal

pub loop-number-preserved : goal.loop-number-preserved
loop-number-preserved c =
    let h = c.loop-number.invariant in
    let added = c.in_ok-add_cap.ensures in
    record {
      made = caps_more c.args.recorder.now c.loop-number.recorder c.add_cap.new.recorder c.args.shapes.now c.loop-number.number _ c.loop-number-test.true h.made added.made;
      none = cap_right c.args.recorder.now c.loop-number.recorder c.args.shapes.now c.loop-number.number _ c.loop-number-test.true h.made h.none added.ok;
    }

pub returns-in_err-add_cap-clause-err : goal.returns-in_err-add_cap-clause-err
returns-in_err-add_cap-clause-err c =
    let p = err_from_is_err_and c.from_residual.result c.from_residual.ensures.1 in
    let h = c.loop-number.invariant in
    let wrong = c.in_err-add_cap.ensures in
    rw (p.1, p.2) (λ some. cap_wrong c.args.recorder.now c.loop-number.recorder c.args.shapes.now c.loop-number.number _ _ c.loop-number-test.true h.made h.none (wrong.bad some) (wrong.err some))

pub returns-clause-made : goal.returns-clause-made
returns-clause-made c = caps_all c.args.recorder.now c.loop-number.recorder c.args.shapes.now c.loop-number.number c.loop-number-test.false c.loop-number.invariant.made

pub returns-clause-ok : goal.returns-clause-ok
returns-clause-ok c = no_fault_all _ c.args.shapes.now c.loop-number.number c.loop-number-test.false c.loop-number.invariant.none
