use Rattle.std.proofs.Common.{arith}
use Rattle.cost_plan.specs.Words.{potential_of, instance_of_rows, pricing_of_rows}
use Rattle.cost_plan.proofs.PricedLemmas.{IsPricingFor-kept, PricesResource-step, PricesResources-step, PricesResources-more}
use Rattle.cost_plan.proofs.pricing.price_resource.Goals as goal

pub loop-round-preserved : goal.loop-round-preserved
loop-round-preserved c =
    let net = instance_of_rows c.args.net.now in
    let potential = potential_of c.args.potentials.now in
    let before = c.loop-round.invariant in
    let old = c.loop-round.prices in
    let new = c.set.new.self in
    let price = c.price_of-price.result in
    let sets = rw c.unwrap.ensures at c.set.ensures.ok in
    record {
      size = IsPricingFor-kept net old new sets.size before.size;
      before = PricesResources-step net potential old new c.args.resource c.loop-round.round price sets before.size before.before;
      here = PricesResource-step net potential old new c.args.resource c.loop-round.round price sets before.size (omega arith) (omega arith) (c.price_of-price.ensures.same, c.price_of-price.ensures.most) before.here;
    }

pub returns-clause-priced : goal.returns-clause-priced
returns-clause-priced c =
    let net = instance_of_rows c.args.net.now in
    let potential = potential_of c.args.potentials.now in
    PricesResources-more net potential (pricing_of_rows c.loop-round.prices) c.args.resource c.loop-round.invariant.before (λ round low high. c.loop-round.invariant.here round low (omega arith))
