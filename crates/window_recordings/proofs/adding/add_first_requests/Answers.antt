use Rattle.std.proofs.Common.{◌<◌, ◌∙◌, List, length, ap, arith, nat_le}
use Rattle.recording_file.specs.declared.request.Request.{Request}
use Rattle.window_recordings.specs.Windows.{first_caps, first_request}
use Rattle.window_recordings.proofs.RequestLemmas.{first_legal, first_done, first_requests_more, first_requests_same, picked_few}
use Rattle.window_recordings.proofs.adding.add_first_requests.Goals as goal
use Rattle.window_recordings.proofs.adding.add_first_requests.Goals.{then-request-round+in_ok-add, else-request-round}

pub add-requires-clause-few : goal.add-requires-clause-few
add-requires-clause-few c =
    let r = c.args.recording.now in
    let n = c.loop-request.request-index in
    let same = c.requests-request-items.ensures.same in
    let few = c.requests-request-items.ensures.kept.few in
    rw c.loop-request.invariant (omega (arith, picked_few (first_request c.args.round) (λ (q : Request). nat_le q.sent c.args.round) r.requests n, c.loop-request-test.true, ap (λ (xs : List Request). length xs) same, few))

pub add-requires-clause-done : goal.add-requires-clause-done
add-requires-clause-done c =
    let r = c.args.recording.now in
    let n = c.loop-request.request-index in
    let same = c.requests-request-items.ensures.same in
    let less : n < length r.requests = omega (arith, c.loop-request-test.true, ap (λ (xs : List Request). length xs) same) in
    rw (c.loop-request.invariant, c.first_request.ensures, same) (first_done r c.args.round n _ c.requests-request-items.ensures.kept less)

pub add-requires-clause-legal : goal.add-requires-clause-legal
add-requires-clause-legal c =
    let r = c.args.recording.now in
    let n = c.loop-request.request-index in
    let same = c.requests-request-items.ensures.same in
    let less : n < length r.requests = omega (arith, c.loop-request-test.true, ap (λ (xs : List Request). length xs) same) in
    let picked = rw same at c.if-request-round.true in
    rw (c.loop-request.invariant, c.first_request.ensures, same) (first_legal r c.args.round n _ c.requests-request-items.ensures.kept c.requires.last less picked)

pub loop-request-preserved : goal.loop-request-preserved
loop-request-preserved c =
    let r = c.args.recording.now in
    let n = c.loop-request.request-index in
    let same = c.requests-request-items.ensures.same in
    let less : n < length r.requests = omega (arith, c.loop-request-test.true, ap (λ (xs : List Request). length xs) same) in
    elim c.if-request-round.branch [
      | then-request-round+in_ok-add w ↦
          let picked = rw same at w.if-request-round.true in
          rw (w.recorder-is, w.in_ok-add.ensures, c.loop-request.invariant, w.first_request.ensures, same) (ap (λ (qs : List Request). record r { rounds = c.args.round; caps = first_caps c.args.round r.caps; requests = qs }) (first_requests_more c.args.round r.requests n _ less picked))
      | else-request-round w ↦
          let left = rw same at w.if-request-round.false in
          w.recorder-is ∙ c.loop-request.invariant ∙ ap (λ (qs : List Request). record r { rounds = c.args.round; caps = first_caps c.args.round r.caps; requests = qs }) (first_requests_same c.args.round r.requests n _ less left)
    ]
