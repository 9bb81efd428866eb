use Rattle.std.proofs.Common.{◌-◌}
use Rattle.cost_plan.specs.Words.{rows, instance_of_rows}
use Rattle.cost_plan.proofs.LoadLemmas.{IsAdding}
use Rattle.cost_plan.proofs.working_schedule.add.Given as goal

abbrev pub invariant-loop-resource : goal.invariant-loop-resource
invariant-loop-resource l = IsAdding (instance_of_rows l.net) l.stay l.round l.initial.loads.items l.loads.items l.resource

abbrev pub decreases-loop-resource : goal.decreases-loop-resource
decreases-loop-resource l = rows (instance_of_rows l.net) - l.resource
