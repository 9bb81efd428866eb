use Rattle.std.proofs.Common.{◌≡◌, filter, map, take}
use Rattle.capture_windows.specs.Attempts.{goes_on}
use Rattle.capture_windows.specs.Devices.{numbered_in}
use Rattle.capture_windows.proofs.going_on.going_on.Given as goal

-- those so far
abbrev pub invariant-loop-attempt : goal.invariant-loop-attempt
invariant-loop-attempt l = l.going.items ≡ map (numbered_in l.span l.attempts) (filter (goes_on l.span) (take l.attempt-index l.attempts))
