use Rattle.std.proofs.Common.{◌<◌, ◌≤◌, List, length, ap, ◌∙◌, arith, All}
use Rattle.std.proofs.lemmas.List.{take_all}
use Rattle.cam_types.specs.declared.limits.TheConstants.{MAX_PRIORITY}
use Rattle.recording_file.specs.declared.request.Request.{Request}
use Rattle.round_net.proofs.RecordedLemmas.{listed}
use Rattle.window_recordings.proofs.CarriedLemmas.{carried_by_requests, carried_yes, carried_no}
use Rattle.window_recordings.proofs.carrying.carried.Goals as goal
use Rattle.window_recordings.proofs.carrying.carried.Goals.{then-round-request, else-round-request}

pub waited-total-requires-clause-priority : goal.waited-total-requires-clause-priority
waited-total-requires-clause-priority c =
    let requests = c.requests-request-items.result.now in
    let each : All (λ (q : Request). q.priority ≤ MAX_PRIORITY) requests = rw c.requests-request-items.ensures.same (listed c.args.recording.now c.requests-request-items.ensures.kept) in
    each c.loop-request.request-index _ c.loop-request-test.true

pub loop-request-preserved : goal.loop-request-preserved
loop-request-preserved c =
    let r = c.args.recording.now in
    let n = c.loop-request.request-index in
    let same = c.requests-request-items.ensures.same in
    let less : n < length r.requests = omega (arith, c.loop-request-test.true, ap (λ (xs : List Request). length xs) same) in
    elim c.if-round-request.branch [
      | then-round-request w ↦
          let late = rw same at w.if-round-request.true in
          record {
            total = w.total-is ∙ rw (c.loop-request.invariant.total, w.waited-total.ensures.same, c.config-config.ensures.same, same) (carried_yes c.args.round r.config r.requests n _ less late);
            small = omega (arith, w.total-is, c.loop-request.invariant.small, w.waited-total.ensures.short);
          }
      | else-round-request w ↦
          let soon = rw same at w.if-round-request.false in
          record {
            total = w.total-is ∙ c.loop-request.invariant.total ∙ carried_no c.args.round r.config r.requests n _ less soon;
            small = omega (arith, w.total-is, c.loop-request.invariant.small);
          }
    ]

pub returns : goal.returns
returns c =
    let r = c.args.recording.now in
    let n = c.loop-request.request-index in
    let same = c.requests-request-items.ensures.same in
    let end : length r.requests ≤ n = omega (arith, c.loop-request-test.false, ap (λ (xs : List Request). length xs) same) in
    c.loop-request.invariant.total ∙ ap (carried_by_requests c.args.round r.config) (take_all n r.requests end)
