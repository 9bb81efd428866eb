use Rattle.std.proofs.Common.{◌∙◌, ap, option_and_then}
use Rattle.xpt_core.specs.Change.{class_of_row}
use Rattle.xpt_core.proofs.CcbLemmas.{class_in}
use Rattle.xpt_core.proofs.state.State.class.Goals as goal

pub returns-in-Some : goal.returns-in-Some
returns-in-Some c = c.class.ensures ∙ ap (option_and_then class_of_row) c.in-Some.ensures ∙ class_in c.self.inside.queues c.self.inside.ccbs c.self.invariant.ccbs c.args.self.now c.self.view_is c.args.ccb

pub returns-in-None : goal.returns-in-None
returns-in-None c = ap (option_and_then class_of_row) c.in-None.ensures ∙ class_in c.self.inside.queues c.self.inside.ccbs c.self.invariant.ccbs c.args.self.now c.self.view_is c.args.ccb
