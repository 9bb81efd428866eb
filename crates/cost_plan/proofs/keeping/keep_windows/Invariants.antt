use Rattle.round_net.specs.Rows.{instance_of_rows}
use Rattle.cost_plan.specs.Cells.{rounds_of}
use Rattle.cost_plan.specs.WorkingSchedule.{KeepWindows}
use Rattle.cost_plan.proofs.keeping.keep_windows.Given as goal

abbrev pub invariant-loop-stay : goal.invariant-loop-stay
invariant-loop-stay l = KeepWindows (instance_of_rows l.net) (rounds_of l.rounds) l.stay
