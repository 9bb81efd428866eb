use Rattle.std.proofs.Common.{◌≡◌, length}
use Rattle.round_net.specs.Rows.{instance_of_rows}
use Rattle.cost_plan.specs.Cells.{node_count}
use Rattle.cost_plan.specs.WorkingSchedule.{schedule_of}
use Rattle.cost_plan.specs.Raising.{AllResidual}
use Rattle.cost_plan.proofs.SearchLemmas.{room}
use Rattle.cost_plan.proofs.search.search.Given as goal

abbrev pub invariant-loop-node : goal.invariant-loop-node
invariant-loop-node l = AllResidual (instance_of_rows l.net) (schedule_of l.working) l.potentials × ((length l.potentials.potentials ≡ node_count (instance_of_rows l.net)) × (l.potentials.most ≡ (instance_of_rows l.net).max_price))

abbrev pub decreases-loop-node : goal.decreases-loop-node
decreases-loop-node l = room l.potentials
