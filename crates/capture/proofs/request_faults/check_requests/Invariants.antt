use Rattle.std.proofs.Common.{◌≡◌, take, None}
use Rattle.cam_types.specs.Lists.{prefixed, first_answer}
use Rattle.capture.specs.Faults.{request_fault}
use Rattle.capture.proofs.request_faults.check_requests.Given as goal

-- no request so far has a fault
abbrev pub invariant-loop-number : goal.invariant-loop-number
invariant-loop-number l = first_answer request_fault (prefixed (take l.number l.requests)) ≡ None
