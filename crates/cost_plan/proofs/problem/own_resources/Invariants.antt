use Rattle.std.proofs.Common.{◌≡◌, length}
use Rattle.round_net.specs.Rows.{instance_of_rows}
use Rattle.cost_plan.specs.Parts.{resources_before}
use Rattle.cost_plan.proofs.problem.own_resources.Given as goal

abbrev pub invariant-loop-resource : goal.invariant-loop-resource
invariant-loop-resource l = length l.above.items ≡ resources_before (instance_of_rows l.net) l.part l.resource
