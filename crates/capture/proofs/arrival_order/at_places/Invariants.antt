use Rattle.std.proofs.Common.{◌≡◌, map, take}
use Rattle.capture.specs.Keys.{request_at}
use Rattle.capture.proofs.arrival_order.at_places.Given as goal

-- the requests of the keys so far
abbrev pub invariant-loop-key : goal.invariant-loop-key
invariant-loop-key l = l.found.items ≡ map (request_at l.requests) (take l.key-index l.keys)
