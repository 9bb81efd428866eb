use Rattle.std.proofs.Common.{◌≡◌, map}
use Rattle.std.specs.List.{range_with_len}
use Rattle.conversions.specs.Steps.{steps_of}
use Rattle.conversions.proofs.drivers.drivers_of.Given as goal

-- the steps of the drivers so far
abbrev pub invariant-loop-driver : goal.invariant-loop-driver
invariant-loop-driver l = map (λ x. x.items) l.drivers.items ≡ map (steps_of l.all) (range_with_len 0 l.driver)
