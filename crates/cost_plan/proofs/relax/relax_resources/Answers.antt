use Rattle.round_net.specs.Rows.{instance_of_rows}
use Rattle.cost_plan.specs.WorkingSchedule.{schedule_of}
use Rattle.cost_plan.specs.Raising.{SettlesResource}
use Rattle.cost_plan.proofs.RaisingLemmas.{IsRaising-more}
use Rattle.cost_plan.proofs.relax.relax_resources.Goals as goal

pub loop-resource-preserved : goal.loop-resource-preserved
loop-resource-preserved c =
    let net = instance_of_rows c.args.net.now in
    let f = schedule_of c.args.working.now in
    IsRaising-more net f (SettlesResource net f) 0 c.args.potentials.now c.loop-resource.potentials c.relax_resource.new.potentials c.loop-resource.found c.relax_resource.result c.or-found.result c.loop-resource.resource c.or-found.ensures c.loop-resource.invariant c.relax_resource.ensures.raises c.relax_resource.ensures.settled
