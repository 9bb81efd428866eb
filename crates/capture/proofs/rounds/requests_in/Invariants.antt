use Rattle.std.proofs.Common.{◌≡◌, map, take}
use Rattle.capture.specs.Rounds.{request_in}
use Rattle.capture.proofs.rounds.requests_in.Given as goal

-- those so far in rounds
abbrev pub invariant-loop-request : goal.invariant-loop-request
invariant-loop-request l = l.made.items ≡ map (request_in l.span l.begin l.rounds) (take l.request-index l.requests)
