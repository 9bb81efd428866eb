use Rattle.round_net.specs.Rows.{instance_of_rows}
use Rattle.cost_plan.specs.WorkingSchedule.{schedule_of, KeepResources}
use Rattle.cost_plan.proofs.keeping.keep_caps.Given as goal

abbrev pub invariant-loop-resource : goal.invariant-loop-resource
invariant-loop-resource l = KeepResources (instance_of_rows l.net) (schedule_of l.working) l.resource
