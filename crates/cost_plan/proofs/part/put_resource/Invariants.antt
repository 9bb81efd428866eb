use Rattle.round_net.specs.Rows.{instance_of_rows}
use Rattle.cost_plan.specs.Parts.{ResourceHasPotentials}
use Rattle.cost_plan.proofs.part.put_resource.Given as goal

abbrev pub invariant-loop-round : goal.invariant-loop-round
invariant-loop-round l = ResourceHasPotentials (instance_of_rows l.net) l.resource l.round l.from l.initial.potentials l.potentials
