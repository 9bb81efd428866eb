use Rattle.std.proofs.Common.{◌≡◌, length}
use Rattle.cost_plan.specs.Words.{instance_of_rows, IsAdmissible, cost}
use Rattle.cost_plan.specs.Cells.{node_count}
use Rattle.cost_plan.specs.WorkingSchedule.{IsWorkingScheduleOf, schedule_of}
use Rattle.cost_plan.proofs.best_plan.settled.Given as goal

abbrev pub invariant-loop-path : goal.invariant-loop-path
invariant-loop-path l =
    let net = instance_of_rows l.net in
    record {
      working : IsWorkingScheduleOf net l.start.working;
      admissible : IsAdmissible net (schedule_of l.start.working);
      size : length l.start.potentials.potentials ≡ node_count net;
      most : l.start.potentials.most ≡ net.max_price;
    }

abbrev pub decreases-loop-path : goal.decreases-loop-path
decreases-loop-path l = cost (instance_of_rows l.net) (schedule_of l.start.working)
