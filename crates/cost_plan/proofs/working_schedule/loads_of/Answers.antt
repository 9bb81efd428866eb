use Rattle.std.proofs.Common.{arith}
use Rattle.round_net.specs.Rows.{instance_of_rows}
use Rattle.cost_plan.specs.Cells.{rounds_of}
use Rattle.cost_plan.proofs.LoadLemmas.{part_load-le}
use Rattle.cost_plan.proofs.working_schedule.loads_of.Goals as goal

pub add-requires-clause-room : goal.add-requires-clause-room
add-requires-clause-room c = λ resource r inside low.
    let net = instance_of_rows c.args.net.now in
    omega (arith, part_load-le net (rounds_of c.args.rounds.now) c.loop-stay.stay resource r, c.loop-stay.invariant.counts resource r inside low, c.stays-stay-end.ensures.sound.few_stays, c.stays-stay-end.ensures.same)
