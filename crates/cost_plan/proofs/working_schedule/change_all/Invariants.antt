use Rattle.std.proofs.Common.{◌≡◌, take}
use Rattle.round_net.specs.Rows.{instance_of_rows}
use Rattle.cost_plan.specs.WorkingSchedule.{IsWorkingScheduleOf}
use Rattle.cost_plan.specs.Residual.{changed_all}
use Rattle.cost_plan.proofs.working_schedule.change_all.Given as goal

abbrev pub invariant-loop-arc : goal.invariant-loop-arc
invariant-loop-arc l = IsWorkingScheduleOf (instance_of_rows l.net) l.working × (l.working.rounds.items ≡ changed_all (instance_of_rows l.net) l.initial.working.rounds.items (take l.arc-index l.arcs))
