use Rattle.round_net.specs.Rows.{instance_of_rows}
use Rattle.cost_plan.specs.WorkingSchedule.{schedule_of}
use Rattle.cost_plan.specs.Raising.{IsRaising, SettlesMoves}
use Rattle.cost_plan.proofs.relax.relax_stays.Given as goal

abbrev pub invariant-loop-stay : goal.invariant-loop-stay
invariant-loop-stay l = let net = instance_of_rows l.net in IsRaising net (schedule_of l.working) (SettlesMoves net (schedule_of l.working)) 0 l.initial.potentials l.potentials l.found l.stay
