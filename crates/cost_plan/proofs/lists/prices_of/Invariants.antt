use Rattle.cost_plan.specs.Words.{instance_of_rows, IsPricingFor}
use Rattle.cost_plan.proofs.lists.prices_of.Given as goal

abbrev pub invariant-loop-resource : goal.invariant-loop-resource
invariant-loop-resource l = IsPricingFor (instance_of_rows l.net) l.prices
