use Rattle.round_net.specs.Rows.{instance_of_rows}
use Rattle.cost_plan.specs.WorkingSchedule.{schedule_of}
use Rattle.cost_plan.specs.Raising.{SettlesMoves}
use Rattle.cost_plan.proofs.RaisingLemmas.{IsRaising-more}
use Rattle.cost_plan.proofs.relax.relax_stays.Goals as goal

pub loop-stay-preserved : goal.loop-stay-preserved
loop-stay-preserved c =
    let net = instance_of_rows c.args.net.now in
    let f = schedule_of c.args.working.now in
    IsRaising-more net f (SettlesMoves net f) 0 c.args.potentials.now c.loop-stay.potentials c.relax_moves.new.potentials c.loop-stay.found c.relax_moves.result c.or-found.result c.loop-stay.stay c.or-found.ensures c.loop-stay.invariant c.relax_moves.ensures.raises c.relax_moves.ensures.settled
