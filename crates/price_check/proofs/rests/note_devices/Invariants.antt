use Rattle.price_check.specs.Words.{instance_of_rows, pricing_of_rows}
use Rattle.price_check.specs.Rests.{AreCheapest}
use Rattle.price_check.proofs.rests.note_devices.Given as goal

abbrev pub invariant-loop-device : goal.invariant-loop-device
invariant-loop-device l = AreCheapest (instance_of_rows l.net) (pricing_of_rows l.prices) l.weight l.device l.rests
