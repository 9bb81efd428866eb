use Rattle.cost_plan.specs.Words.{instance_of_rows}
use Rattle.cost_plan.proofs.PricedLemmas.{IsPricingFor-kept}
use Rattle.cost_plan.proofs.lists.price_resource.Goals as goal

pub loop-round-preserved : goal.loop-round-preserved
loop-round-preserved c =
    let sets = rw c.unwrap.ensures at c.set.ensures.ok in
    IsPricingFor-kept (instance_of_rows c.args.net.now) c.loop-round.prices c.set.new.self sets.size c.loop-round.invariant
