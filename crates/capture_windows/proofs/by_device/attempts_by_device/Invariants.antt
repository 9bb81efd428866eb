use Rattle.std.proofs.Common.{take}
use Rattle.capture_windows.specs.Counted.{AreByDevice}
use Rattle.capture_windows.proofs.by_device.attempts_by_device.Given as goal

-- those so far
abbrev pub invariant-loop-attempt : goal.invariant-loop-attempt
invariant-loop-attempt l = AreByDevice l.count (take l.attempt-index l.attempts) l.lists.items
