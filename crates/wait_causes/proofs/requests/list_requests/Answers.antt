use Rattle.std.proofs.Common.{◌≡◌, ◌<◌, ◌≤◌, ◌∙◌, ap, sym, length, length-take, take, get_or, arith, All, List, [], zip}
use Rattle.std.proofs.lemmas.Slice.Zip.{length-zip, get_or-zip}
use Rattle.cam_types.specs.Lists.{prefixed}
use Rattle.cam_types.specs.declared.limits.TheConstants.{MAX_PRIORITY}
use Rattle.recording_file.specs.declared.request.Request.{Request}
use Rattle.round_net.proofs.RecordedLemmas.{listed}
use Rattle.wait_causes.specs.Stays.{request_by}
use Rattle.wait_causes.proofs.RequestLemmas.{prefixed_length, prefix_at, no_request}
use Rattle.wait_causes.proofs.StayLemmas.{zip_push, zip_all}
use Rattle.wait_causes.proofs.requests.list_requests.Goals as goal

pub explain-requires-clause-priority : goal.explain-requires-clause-priority
explain-requires-clause-priority c =
    let requests = c.requests-requests.result.now in
    let each : All (λ (q : Request). q.priority ≤ MAX_PRIORITY) requests = rw c.requests-requests.ensures.same (listed c.args.recording.now c.requests-requests.ensures.kept) in
    each c.loop-number.number no_request c.loop-number-test.true

pub loop-number-preserved : goal.loop-number-preserved
loop-number-preserved c =
    let requests = c.requests-requests.result.now in
    let pace = c.args.pace.now in
    let best = c.args.best.now in
    let n = c.loop-number.number in
    let lt : n < length requests = c.loop-number-test.true in
    let long : length (take n requests) ≡ n = omega (arith, length-take n requests, lt) in
    let here = c.explain.ensures (take n requests) long in
    let all : length requests ≡ length c.args.recording.now.requests = ap (λ (qs : List Request). length qs) c.requests-requests.ensures.same in
    let paced : n < length pace = omega (arith, lt, all, c.requires.pace) in
    let planned : n < length best = omega (arith, lt, all, c.requires.best) in
    let rounds : (c.round-pace.result, c.round-best.result) ≡ get_or (zip pace best) n (0, 0) = ap (λ a. (a, c.round-best.result)) c.round-pace.ensures ∙ ap (λ b. (get_or pace n 0, b)) c.round-best.ensures ∙ sym (get_or-zip pace best n (0, 0) paced planned) in
    zip_push (request_by c.config-config.result.now) (prefixed requests) (zip pace best) n c.loop-number.rows.items c.push.new.self.items c.explain.result (take n requests, get_or requests n no_request) (c.round-pace.result, c.round-best.result) (0, 0)
    c.loop-number.invariant c.in_ok-push.ensures.items
    (here ∙ ap (λ (m : List Request × Request). request_by c.config-config.result.now (m, (c.round-pace.result, c.round-best.result))) (sym (prefix_at requests n no_request (take n requests, get_or requests n no_request) lt)))
    rounds (omega (arith, lt, prefixed_length [] requests)) (rw (length-zip pace best) (omega arith))

pub returns : goal.returns
returns c =
    let requests = c.requests-requests.result.now in
    let pace = c.args.pace.now in
    let best = c.args.best.now in
    let same : length (zip pace best) ≡ length (prefixed requests) = rw (length-zip pace best) (omega (arith, c.requires.pace, c.requires.best, ap (λ (qs : List Request). length qs) c.requests-requests.ensures.same, prefixed_length [] requests)) in
    rw (c.config-config.ensures.same, c.requests-requests.ensures.same) at
    (c.loop-number.invariant ∙ zip_all (request_by c.config-config.result.now) (prefixed requests) (zip pace best) c.loop-number.number same (omega (arith, c.loop-number-test.false, prefixed_length [] requests)))
