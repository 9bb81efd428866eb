use Rattle.std.proofs.Common.{◌∙◌}
use Rattle.xpt_core.proofs.CcbLemmas.{ccb_in}
use Rattle.xpt_core.proofs.state.State.ccb.Goals as goal

pub returns : goal.returns
returns c = c.get.ensures ∙ ccb_in c.self.inside.queues c.self.inside.ccbs c.self.invariant.ccbs c.args.self.now c.self.view_is c.args.ccb
