use Rattle.std.proofs.Common.{◌≡◌, ◌≤◌, ◌<◌, length, arith, All}
use Rattle.cam_types.specs.declared.limits.TheConstants.{MAX_PRIORITY}
use Rattle.recording_file.specs.declared.request.Request.{Request}
use Rattle.round_net.proofs.RecordedLemmas.{waited_more, waited_all, listed}
use Rattle.round_net.proofs.recorded_rows.recorded_cost.Goals as goal

pub waited-total-requires-clause-priority : goal.waited-total-requires-clause-priority
waited-total-requires-clause-priority c =
    let requests = c.requests-requests.result.now in
    let each : All (λ (q : Request). q.priority ≤ MAX_PRIORITY) requests = rw c.requests-requests.ensures.same (listed c.args.recording.now c.requests-requests.ensures.kept) in
    let lt : c.loop-number.number < length requests = omega (arith, c.loop-number-test.true) in
    each c.loop-number.number _ lt

pub loop-number-preserved : goal.loop-number-preserved
loop-number-preserved c =
    let requests = c.requests-requests.result.now in
    let n = c.loop-number.number in
    let lt : n < length requests = omega (arith, c.loop-number-test.true) in (
      waited_more c.args.recording.now requests c.config-config.result.now n c.loop-number.total c.waited-total.result _ c.requests-requests.ensures.same c.config-config.ensures.same lt c.loop-number.invariant.0 c.waited-total.ensures.same,
      omega (arith, c.loop-number.invariant.1, c.waited-total.ensures.short),
    )

pub returns : goal.returns
returns c =
    let requests = c.requests-requests.result.now in
    let end : c.loop-number.number ≡ length requests = omega (arith, c.loop-number-test.false, c.loop-number.auto.number-end) in
    waited_all c.args.recording.now requests c.loop-number.number c.loop-number.total c.requests-requests.ensures.same end c.loop-number.invariant.0
