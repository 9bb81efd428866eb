use Rattle.round_net.specs.Rows.{instance_of_rows}
use Rattle.cost_plan.specs.WorkingSchedule.{schedule_of}
use Rattle.cost_plan.specs.Raising.{SettlesCell}
use Rattle.cost_plan.proofs.RaisingLemmas.{IsRaising-more}
use Rattle.cost_plan.proofs.relax.relax_resource.Goals as goal

pub loop-round-preserved : goal.loop-round-preserved
loop-round-preserved c =
    let net = instance_of_rows c.args.net.now in
    let f = schedule_of c.args.working.now in
    IsRaising-more net f (SettlesCell net f c.args.resource) 1 c.args.potentials.now c.loop-round.potentials c.relax_cell.new.potentials c.loop-round.found c.relax_cell.result c.or-found.result c.loop-round.round c.or-found.ensures c.loop-round.invariant c.relax_cell.ensures.raises c.relax_cell.ensures.settled
