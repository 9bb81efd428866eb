use Rattle.std.proofs.Common.{◌∙◌}
use Rattle.xpt_core.proofs.CcbLemmas.{flying_in}
use Rattle.xpt_core.proofs.state.State.in_flight_count.Goals as goal

pub returns : goal.returns
returns c = c.in_flight.ensures ∙ flying_in c.self.inside.queues c.self.inside.ccbs c.self.invariant.ccbs c.args.self.now c.self.view_is
