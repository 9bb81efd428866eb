use Rattle.std.proofs.Common.{◌≡◌, ap, arith, length}
use Rattle.trace_file.proofs.EventRecordLaws.{event_records}
use Rattle.trace_file.proofs.event_number.event_record.Goals as goal

pub overflow_sub-others : goal.overflow_sub-others
overflow_sub-others c =
    let k = event_records c.args.text.now c.args.history.now c.requires in
    let same : length c.events.result.now ≡ length c.args.history.now.events = ap length c.events.ensures.same in
    let count = c.in_ok-others.ensures in
    let all = k.1 in
    omega arith

pub returns-clause-number : goal.returns-clause-number
returns-clause-number c =
    let k = event_records c.args.text.now c.args.history.now c.requires in
    let same : length c.events.result.now ≡ length c.args.history.now.events = ap length c.events.ensures.same in
    let count = c.in_ok-others.ensures in
    let all = k.1 in
    k.2 _ _ (omega arith) (omega arith)
