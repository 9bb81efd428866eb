use Rattle.std.proofs.Common.{◌≡◌, ◌∙◌, ap, arith}
use Rattle.xpt_core.specs.Transport.{Transport}
use Rattle.xpt_core.proofs.StaySoundLemmas.{few-records}
use Rattle.xpt_core.proofs.QuestionLemmas.{cost-by}
use Rattle.xpt_core.proofs.state.State.live_cost.Goals as goal

pub live_sum-requires : goal.live_sum-requires
live_sum-requires c = omega (arith, few-records c.self.inside.queues c.self.inside.stays c.self.invariant.stays, c.deref.ensures.len)

pub returns : goal.returns
returns c =
    let at : c.config.result.now ≡ c.args.self.now.config = c.config.ensures ∙ ap (λ (t : Transport). t.config) (c.devices.ensures ∙ c.self.view_is) in
    rw at at c.live_sum.ensures ∙ cost-by c.self.inside.queues c.self.inside.stays c.self.invariant.stays c.args.self.now c.self.view_is c.deref.result.now c.deref.ensures.value
