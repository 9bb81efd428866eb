use Rattle.std.proofs.Common.{◌≡◌, All, Some}
use Rattle.capture.specs.declared.timed_request.TimedRequest.{TimedRequest}
use Rattle.window_recordings.proofs.parts.first_waiting.Given as goal

abbrev pub invariant-loop-request : goal.invariant-loop-request
invariant-loop-request l = Unit {0}

-- those so far
abbrev pub invariant-loop-request-2 : goal.invariant-loop-request-2
invariant-loop-request-2 l = All (λ (q : TimedRequest). q.started ≡ Some l.until) l.added.items
