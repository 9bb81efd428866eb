use Rattle.std.proofs.Common.{◌≡◌, take}
use Rattle.conversions.specs.Rescheduled.{moved}
use Rattle.conversions.proofs.rescheduling.add_requests.Given as goal

abbrev pub invariant-loop-number : goal.invariant-loop-number
invariant-loop-number l = l.recorder ≡ record l.recording { requests = moved l.schedule (take l.number l.recording.requests) }
