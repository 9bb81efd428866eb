use Rattle.std.proofs.Common.{◌≡◌, map, take}
use Rattle.event_rules.specs.Stays.{stays_begun}
use Rattle.round_net.specs.Caps.{resource_count}
use Rattle.conversions.specs.Recorded.{caps_of, recorded_with}
use Rattle.conversions.specs.Requests.{request_of}
use Rattle.conversions.proofs.stay_requests.add_requests.Given as goal

-- the requests of the stays so far
abbrev pub invariant-loop-stay : goal.invariant-loop-stay
invariant-loop-stay l =
    l.recorder ≡ recorded_with l.history (caps_of l.history.config l.history.events (resource_count l.history.config)) (map (request_of l.history.events) (take l.stay-index (stays_begun l.history.events)))
