use Rattle.std.proofs.Common.{◌∙◌, sym}
use Rattle.xpt_core.proofs.CcbLemmas.{finish_wanted}
use Rattle.xpt_core.proofs.state.State.wants_finish.Goals as goal

pub returns-in-Some : goal.returns-in-Some
returns-in-Some c = c.asks_finish.ensures ∙ finish_wanted c.args.self.now.events c.args.ccb _ (sym c.in-Some.is ∙ c.class.ensures)

pub returns-in-None : goal.returns-in-None
returns-in-None c = finish_wanted c.args.self.now.events c.args.ccb _ (sym c.in-None.is ∙ c.class.ensures)
