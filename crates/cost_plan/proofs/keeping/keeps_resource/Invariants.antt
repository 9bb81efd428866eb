use Rattle.round_net.specs.Rows.{instance_of_rows}
use Rattle.cost_plan.specs.WorkingSchedule.{schedule_of, KeepsResource}
use Rattle.cost_plan.proofs.keeping.keeps_resource.Given as goal

abbrev pub invariant-loop-round : goal.invariant-loop-round
invariant-loop-round l = KeepsResource (instance_of_rows l.net) (schedule_of l.working) l.resource l.round
