use Rattle.std.proofs.Common.{◌∙◌}
use Rattle.xpt_core.proofs.CcbLemmas.{alive_in}
use Rattle.xpt_core.proofs.state.State.alive.Goals as goal

pub returns : goal.returns
returns c = c.alive.ensures ∙ alive_in c.self.inside.queues c.self.inside.ccbs c.self.invariant.ccbs c.args.self.now c.self.view_is
