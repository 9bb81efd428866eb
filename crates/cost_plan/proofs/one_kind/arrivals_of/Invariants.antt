use Rattle.std.proofs.Common.{◌≡◌, map, take}
use Rattle.cost_plan.specs.Words.{instance_of_rows}
use Rattle.cost_plan.proofs.one_kind.arrivals_of.Given as goal

abbrev pub invariant-loop-stay : goal.invariant-loop-stay
invariant-loop-stay l = l.arrivals.items ≡ map (instance_of_rows l.net).arrival (take l.stay-index l.members)
