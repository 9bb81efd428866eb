use Rattle.cost_plan.specs.Words.{instance_of_rows, IsPricingFor}
use Rattle.cost_plan.proofs.lists.price_resource.Given as goal

abbrev pub invariant-loop-round : goal.invariant-loop-round
invariant-loop-round l = IsPricingFor (instance_of_rows l.net) l.prices
