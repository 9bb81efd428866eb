use Rattle.round_net.specs.Rows.{instance_of_rows}
use Rattle.cost_plan.specs.WorkingSchedule.{schedule_of}
use Rattle.cost_plan.specs.Raising.{IsRaising, SettlesMove}
use Rattle.cost_plan.proofs.relax.relax_moves.Given as goal

abbrev pub invariant-loop-round : goal.invariant-loop-round
invariant-loop-round l = let net = instance_of_rows l.net in IsRaising net (schedule_of l.working) (SettlesMove net (schedule_of l.working) l.stay) (net.arrival l.stay) l.initial.potentials l.potentials l.found l.round
