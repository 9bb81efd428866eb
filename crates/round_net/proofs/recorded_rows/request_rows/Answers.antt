use Rattle.std.proofs.Common.{◌≡◌, ◌<◌, ◌≤◌, ◌∙◌, length, length-take, take, arith, All}
use Rattle.cam_types.specs.declared.limits.TheConstants.{MAX_PRIORITY}
use Rattle.recording_file.specs.declared.request.Request.{Request}
use Rattle.round_net.proofs.RecordedLemmas.{request_more, listed}
use Rattle.round_net.proofs.recorded_rows.request_rows.Goals as goal

pub request_row-requires-clause-priority : goal.request_row-requires-clause-priority
request_row-requires-clause-priority c =
    let requests = c.requests-requests.result.now in
    let each : All (λ (q : Request). q.priority ≤ MAX_PRIORITY) requests = rw c.requests-requests.ensures.same (listed c.args.recording.now c.requests-requests.ensures.kept) in
    let lt : c.loop-number.number < length requests = omega (arith, c.loop-number-test.true) in
    each c.loop-number.number _ lt

pub loop-number-preserved : goal.loop-number-preserved
loop-number-preserved c =
    let requests = c.requests-requests.result.now in
    let n = c.loop-number.number in
    let lt : n < length requests = omega (arith, c.loop-number-test.true) in
    let long : length (take n requests) ≡ n = omega (arith, length-take n requests) in
    c.in_ok-push.ensures.items
    ∙ request_more c.config-config.result.now c.rounds-rounds.result c.loop-number.rows.items requests c.request_row.result n _ lt c.loop-number.invariant (c.request_row.ensures (take n requests) long)
