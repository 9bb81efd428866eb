use Rattle.cost_plan.specs.Words.{potential_of, instance_of_rows, pricing_of_rows, IsPricingFor}
use Rattle.cost_plan.specs.ResourcePrices.{PricesResource, PricesResources}
use Rattle.cost_plan.proofs.pricing.price_resource.Given as goal

abbrev pub invariant-loop-round : goal.invariant-loop-round
invariant-loop-round l =
    let net = instance_of_rows l.net in
    let potential = potential_of l.potentials in
    record {
      size : IsPricingFor net l.prices;
      before : PricesResources net potential (pricing_of_rows l.prices) l.resource;
      here : PricesResource net potential (pricing_of_rows l.prices) l.resource l.round;
    }
