use Rattle.round_net.specs.Rows.{instance_of_rows}
use Rattle.cost_plan.specs.WorkingSchedule.{schedule_of}
use Rattle.cost_plan.specs.Raising.{IsRaising, SettlesResource}
use Rattle.cost_plan.proofs.relax.relax_resources.Given as goal

abbrev pub invariant-loop-resource : goal.invariant-loop-resource
invariant-loop-resource l = let net = instance_of_rows l.net in IsRaising net (schedule_of l.working) (SettlesResource net (schedule_of l.working)) 0 l.initial.potentials l.potentials l.found l.resource
