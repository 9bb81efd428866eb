use Rattle.std.proofs.lemmas.Result.{err_from_is_err_and}
use Rattle.camxpt_c.proofs.RecordingLemmas.{requests_more, requests_all, no_fault_all, request_right, request_wrong, request_few}
use Rattle.camxpt_c.proofs.recording_items.add_requests.Goals as goal

pub add_request-requires : goal.add_request-requires
add_request-requires c = request_few c.args.recorder.now c.loop-number.recorder c.args.shapes.now c.loop-number.number _ c.loop-number-test.true c.requires.few c.loop-number.invariant.made

pub loop-number-preserved : goal.loop-number-preserved
loop-number-preserved c =
    let h = c.loop-number.invariant in
    let added = c.in_ok-add_request.ensures in
    record {
      made = requests_more c.args.recorder.now c.loop-number.recorder c.add_request.new.recorder c.args.shapes.now c.loop-number.number _ c.loop-number-test.true h.made added.made;
      none = request_right c.args.recorder.now c.loop-number.recorder c.args.shapes.now c.loop-number.number _ c.loop-number-test.true h.made h.none added.ok;
    }

pub returns-in_err-add_request-clause-err : goal.returns-in_err-add_request-clause-err
returns-in_err-add_request-clause-err c =
    let p = err_from_is_err_and c.from_residual.result c.from_residual.ensures.1 in
    let h = c.loop-number.invariant in
    rw (p.1, p.2) (λ some. request_wrong c.args.recorder.now c.loop-number.recorder c.args.shapes.now c.loop-number.number _ _ c.loop-number-test.true h.made h.none (c.in_err-add_request.ensures.err some))

pub returns-clause-made : goal.returns-clause-made
returns-clause-made c = requests_all c.args.recorder.now c.loop-number.recorder c.args.shapes.now c.loop-number.number c.loop-number-test.false c.loop-number.invariant.made

pub returns-clause-ok : goal.returns-clause-ok
returns-clause-ok c = no_fault_all _ c.args.shapes.now c.loop-number.number c.loop-number-test.false c.loop-number.invariant.none
