use Rattle.std.proofs.Common.{arith}
use Rattle.round_net.specs.Rows.{instance_of_rows}
use Rattle.cost_plan.proofs.PartLemmas.{before-le}
use Rattle.cost_plan.proofs.part.put_rounds.Goals as goal

pub overflow_add-next : goal.overflow_add-next
overflow_add-next c =
    let low = before-le (instance_of_rows c.args.net.now) c.args.part.now.adapter c.loop-stay.stay in
    omega (arith, low, c.loop-stay.invariant.next, c.loop-stay-test.true, c.stays-stay-end.ensures.sound.few_stays, c.stays-stay-end.ensures.same)
