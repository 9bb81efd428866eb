use Rattle.std.proofs.Common.{◌≡◌}
use Rattle.capture.specs.Lengths.{max_starts}
use Rattle.capture.proofs.lengths.max_starts.Given as goal

-- the most of the devices so far
abbrev pub invariant-loop-device : goal.invariant-loop-device
invariant-loop-device l = l.most ≡ max_starts l.requests l.device
