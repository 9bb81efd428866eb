use Rattle.std.proofs.Common.{◌∙◌, ap}
use Rattle.xpt_core.proofs.CcbLemmas.{is_row_recovering, recovering_in}
use Rattle.xpt_core.proofs.state.State.is_recovering.Goals as goal

pub returns-in-Some : goal.returns-in-Some
returns-in-Some c = ap is_row_recovering c.in-Some.ensures ∙ recovering_in c.self.inside.queues c.self.inside.ccbs c.self.invariant.ccbs c.args.self.now c.self.view_is c.args.ccb

pub returns-in-None : goal.returns-in-None
returns-in-None c = ap is_row_recovering c.in-None.ensures ∙ recovering_in c.self.inside.queues c.self.inside.ccbs c.self.invariant.ccbs c.args.self.now c.self.view_is c.args.ccb
