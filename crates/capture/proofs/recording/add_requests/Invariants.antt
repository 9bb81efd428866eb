use Rattle.std.proofs.Common.{◌≡◌, take}
use Rattle.capture.proofs.recording.add_requests.Given as goal

-- the requests so far
abbrev pub invariant-loop-request : goal.invariant-loop-request
invariant-loop-request l = l.recorder ≡ record l.fn.recorder { requests = take l.request-index l.requests }
