use Rattle.std.proofs.Common.{arith}
use Rattle.std.proofs.lemmas.List.{length-take}
use Rattle.capture.proofs.CauseLemmas.{no_cause, done_right}
use Rattle.capture.proofs.FaultLemmas.{each_there}
use Rattle.capture.proofs.RecorderLemmas.{requests_none, requests_more, requests_all}
use Rattle.capture.proofs.recording.add_requests.Goals as goal

pub add_request-requires-clause-few : goal.add_request-requires-clause-few
add_request-requires-clause-few c = rw c.loop-request.invariant (omega (arith, c.requires.few, c.loop-request-test.true, length-take c.loop-request.request-index c.args.requests.now))

pub add_request-requires-clause-fits : goal.add_request-requires-clause-fits
add_request-requires-clause-fits c =
    let n = c.loop-request.request-index in
    let lt = c.loop-request-test.true in
    rw (c.loop-request.invariant, c.requires.caps, c.requires.config) (no_cause c.args.config.now c.args.rated.now c.args.«open».now c.args.spare.now c.args.requests.now c.args.recorder.now.rounds n _ c.requires.kept lt c.requires.within c.requires.crowds (each_there c.args.config.now c.args.requests.now c.requires.devices n _ lt))

pub add_request-requires-clause-done : goal.add_request-requires-clause-done
add_request-requires-clause-done c =
    let n = c.loop-request.request-index in
    let lt = c.loop-request-test.true in
    rw (c.loop-request.invariant, c.requires.completions) (done_right c.args.requests.now c.args.recorder.now.rounds n _ lt (c.requires.within n _ lt))

pub loop-request-init : goal.loop-request-init
loop-request-init c = requests_none c.args.recorder.now c.requires.none

pub loop-request-preserved : goal.loop-request-preserved
loop-request-preserved c = requests_more c.args.recorder.now c.loop-request.recorder c.add_request.new.recorder c.args.requests.now c.loop-request.request-index _ c.loop-request-test.true c.loop-request.invariant c.in_ok-add_request.ensures

pub returns : goal.returns
returns c = requests_all c.args.recorder.now c.loop-request.recorder c.args.requests.now c.loop-request.request-index c.loop-request-test.false c.loop-request.invariant
