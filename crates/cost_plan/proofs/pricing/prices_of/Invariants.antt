use Rattle.cost_plan.specs.Words.{potential_of, instance_of_rows, pricing_of_rows, IsPricingFor}
use Rattle.cost_plan.specs.ResourcePrices.{PricesResources}
use Rattle.cost_plan.proofs.pricing.prices_of.Given as goal

abbrev pub invariant-loop-resource : goal.invariant-loop-resource
invariant-loop-resource l = let net = instance_of_rows l.net in record { size : IsPricingFor net l.prices; before : PricesResources net (potential_of l.potentials) (pricing_of_rows l.prices) l.resource }
