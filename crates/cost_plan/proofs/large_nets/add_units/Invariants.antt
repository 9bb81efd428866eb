use Rattle.std.proofs.Common.{◌≡◌}
use Rattle.cost_plan.proofs.large_nets.add_units.Given as goal

abbrev pub invariant-loop-resource : goal.invariant-loop-resource
invariant-loop-resource l = l.network.stays.items ≡ l.initial.network.stays.items
