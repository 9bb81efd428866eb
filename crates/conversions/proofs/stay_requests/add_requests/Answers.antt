use Rattle.std.proofs.Common.{◌≡◌, ◌<◌, ◌∙◌, length, take, get_or, refl, ap, arith}
use Rattle.std.proofs.lemmas.List.{length-map, length-take}
use Rattle.cam_types.specs.Topology.{IsConfig}
use Rattle.event_rules.specs.Counts.{round, submissions}
use Rattle.event_rules.specs.Stays.{stays_begun}
use Rattle.event_rules.proofs.LimitLemmas.{stays_most}
use Rattle.recording_file.specs.Recorded.{Recorded}
use Rattle.recording_file.proofs.PlacingLemmas.{head_config}
use Rattle.round_net.specs.Caps.{resource_count}
use Rattle.conversions.specs.Recorded.{without_lanes, caps_of}
use Rattle.conversions.specs.Requests.{request_of}
use Rattle.conversions.proofs.RequestLemmas.{no_cause, stay_request, as_many, requests_more, requests_all}
use Rattle.conversions.proofs.stay_requests.add_requests.Goals as goal

pub add_request-requires-clause-few : goal.add_request-requires-clause-few
add_request-requires-clause-few c =
    let h = c.args.history.now in
    let n = c.loop-stay.stay-index in
    let many = as_many h.events c.stays-stay-items.result.now c.stays-stay-items.ensures in
    let most = stays_most h.config h.events c.events.ensures.legal in
    rw c.loop-stay.invariant (omega (arith, c.loop-stay-test.true, length-map (take n (stays_begun h.events)) (request_of h.events), length-take n (stays_begun h.events)))

pub add_request-requires-clause-done : goal.add_request-requires-clause-done
add_request-requires-clause-done c = rw c.request_of.ensures refl

pub add_request-requires-clause-fits : goal.add_request-requires-clause-fits
add_request-requires-clause-fits c =
    let h = c.args.history.now in
    let n = c.loop-stay.stay-index in
    let x = c.stay-item.result in
    let kept = c.stays-stay-items.ensures in
    let many = as_many h.events c.stays-stay-items.result.now kept in
    let lt : n < length (stays_begun h.events) = omega (arith, c.loop-stay-test.true) in
    let config : IsConfig (without_lanes h.config) = rw c.requires.none at (head_config _ c.rounds-rounds.ensures.kept.head) in
    let submitted : c.deref.result.now ≡ submissions h.events = c.deref.ensures.value ∙ c.in_ok-submitted.ensures ∙ ap submissions c.events.ensures.same in
    let rounds : c.rounds-rounds.result ≡ round h.events = c.rounds-rounds.ensures.same ∙ ap (λ (r : Recorded). r.rounds) c.requires.none in
    let here : c.request_of.result ≡ request_of h.events (get_or (stays_begun h.events) n x.stay) = c.request_of.ensures ∙ rw (submitted, rounds) (stay_request h.events c.stays-stay-items.result.now n x kept c.loop-stay-test.true c.stay-item.is) in
    rw (c.loop-stay.invariant, here) (no_cause h.config h.events n x.stay config c.events.ensures.legal c.requires.complete lt)

pub loop-stay-preserved : goal.loop-stay-preserved
loop-stay-preserved c =
    let h = c.args.history.now in
    let n = c.loop-stay.stay-index in
    let x = c.stay-item.result in
    let kept = c.stays-stay-items.ensures in
    let many = as_many h.events c.stays-stay-items.result.now kept in
    let lt : n < length (stays_begun h.events) = omega (arith, c.loop-stay-test.true) in
    let submitted : c.deref.result.now ≡ submissions h.events = c.deref.ensures.value ∙ c.in_ok-submitted.ensures ∙ ap submissions c.events.ensures.same in
    let rounds : c.rounds-rounds.result ≡ round h.events = c.rounds-rounds.ensures.same ∙ ap (λ (r : Recorded). r.rounds) c.requires.none in
    let here : c.request_of.result ≡ request_of h.events (get_or (stays_begun h.events) n x.stay) = c.request_of.ensures ∙ rw (submitted, rounds) (stay_request h.events c.stays-stay-items.result.now n x kept c.loop-stay-test.true c.stay-item.is) in
    requests_more h (caps_of h.config h.events (resource_count h.config)) n x.stay c.loop-stay.recorder c.add_request.new.recorder c.request_of.result lt c.loop-stay.invariant here c.in_ok-add_request.ensures

pub returns : goal.returns
returns c =
    let h = c.args.history.now in
    let many = as_many h.events c.stays-stay-items.result.now c.stays-stay-items.ensures in
    requests_all h c.loop-stay.stay-index c.loop-stay.recorder (omega (arith, c.loop-stay-test.false)) c.loop-stay.invariant
