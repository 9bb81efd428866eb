use Rattle.std.proofs.Common.{◌<◌, ◌-◌, ◌∙◌, List, length, ap, arith, nat_lt}
use Rattle.recording_file.specs.declared.request.Request.{Request}
use Rattle.window_recordings.specs.Windows.{second_caps, second_request}
use Rattle.window_recordings.proofs.RequestLemmas.{second_legal, second_done, second_requests_more, second_requests_same, picked_few}
use Rattle.window_recordings.proofs.adding.add_second_requests.Goals as goal
use Rattle.window_recordings.proofs.adding.add_second_requests.Goals.{then-round-request+in_ok-add, else-round-request}

pub add-requires-clause-few : goal.add-requires-clause-few
add-requires-clause-few c =
    let r = c.args.recording.now in
    let n = c.loop-request.request-index in
    let same = c.requests-request-items.ensures.same in
    let few = c.requests-request-items.ensures.kept.few in
    rw c.loop-request.invariant (omega (arith, picked_few (second_request c.args.round) (λ (q : Request). nat_lt c.args.round q.sent) r.requests n, c.loop-request-test.true, ap (λ (xs : List Request). length xs) same, few))

pub add-requires-clause-done : goal.add-requires-clause-done
add-requires-clause-done c =
    let r = c.args.recording.now in
    let n = c.loop-request.request-index in
    let same = c.requests-request-items.ensures.same in
    let less : n < length r.requests = omega (arith, c.loop-request-test.true, ap (λ (xs : List Request). length xs) same) in
    rw (c.loop-request.invariant, c.second_request.ensures, same) (second_done r c.args.round n _ c.requests-request-items.ensures.kept less)

pub add-requires-clause-legal : goal.add-requires-clause-legal
add-requires-clause-legal c =
    let r = c.args.recording.now in
    let n = c.loop-request.request-index in
    let same = c.requests-request-items.ensures.same in
    let less : n < length r.requests = omega (arith, c.loop-request-test.true, ap (λ (xs : List Request). length xs) same) in
    let picked = rw same at c.if-round-request.true in
    rw (c.loop-request.invariant, c.second_request.ensures, same) (second_legal r c.args.round n _ c.requests-request-items.ensures.kept less picked)

pub loop-request-preserved : goal.loop-request-preserved
loop-request-preserved c =
    let r = c.args.recording.now in
    let n = c.loop-request.request-index in
    let same = c.requests-request-items.ensures.same in
    let less : n < length r.requests = omega (arith, c.loop-request-test.true, ap (λ (xs : List Request). length xs) same) in
    elim c.if-round-request.branch [
      | then-round-request+in_ok-add w ↦
          let picked = rw same at w.if-round-request.true in
          rw (w.recorder-is, w.in_ok-add.ensures, c.loop-request.invariant, w.second_request.ensures, same) (ap (λ (qs : List Request). record r { rounds = r.rounds - c.args.round; caps = second_caps c.args.round r.caps; requests = qs }) (second_requests_more c.args.round r.requests n _ less picked))
      | else-round-request w ↦
          let left = rw same at w.if-round-request.false in
          w.recorder-is ∙ c.loop-request.invariant ∙ ap (λ (qs : List Request). record r { rounds = r.rounds - c.args.round; caps = second_caps c.args.round r.caps; requests = qs }) (second_requests_same c.args.round r.requests n _ less left)
    ]
