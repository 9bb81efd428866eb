use Rattle.std.proofs.Common.{◌≡◌, length}
use Rattle.cost_plan.proofs.problem.resources_above.Given as goal

abbrev pub invariant-loop-resource : goal.invariant-loop-resource
invariant-loop-resource l = length l.above.items ≡ l.resource
