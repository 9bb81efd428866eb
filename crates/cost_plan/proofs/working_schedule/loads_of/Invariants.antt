use Rattle.round_net.specs.Rows.{instance_of_rows}
use Rattle.cost_plan.specs.Cells.{rounds_of}
use Rattle.cost_plan.specs.WorkingSchedule.{AreLoads}
use Rattle.cost_plan.proofs.working_schedule.loads_of.Given as goal

abbrev pub invariant-loop-stay : goal.invariant-loop-stay
invariant-loop-stay l = AreLoads (instance_of_rows l.net) (rounds_of l.rounds) l.stay l.loads.items
