use Rattle.std.proofs.Common.{[]}
use Rattle.capture_windows.specs.Counted.{AreByDevice}
use Rattle.capture_windows.proofs.by_device.no_attempts.Given as goal

abbrev pub invariant-loop-device : goal.invariant-loop-device
invariant-loop-device l = AreByDevice l._device [] l.lists.items
