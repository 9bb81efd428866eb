use Rattle.std.proofs.Common.{◌∙◌, sym}
use Rattle.xpt_core.proofs.CcbLemmas.{requeue_wanted}
use Rattle.xpt_core.proofs.state.State.wants_requeue.Goals as goal

pub returns-in-Some : goal.returns-in-Some
returns-in-Some c = c.asks_requeue.ensures ∙ requeue_wanted c.args.self.now.events c.args.ccb _ (sym c.in-Some.is ∙ c.class.ensures)

pub returns-in-None : goal.returns-in-None
returns-in-None c = requeue_wanted c.args.self.now.events c.args.ccb _ (sym c.in-None.is ∙ c.class.ensures)
