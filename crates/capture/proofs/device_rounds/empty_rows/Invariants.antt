use Rattle.capture.specs.Loads.{AreRows}
use Rattle.capture.proofs.device_rounds.empty_rows.Given as goal

abbrev pub invariant-loop-device : goal.invariant-loop-device
invariant-loop-device l = AreRows (λ d r. 0) l._device l.last l.rows.items
