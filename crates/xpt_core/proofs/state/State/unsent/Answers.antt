use Rattle.std.proofs.Common.{ap, sym, ◌∙◌, find}
use Rattle.xpt_core.specs.StayRecord.{is_unsent}
use Rattle.xpt_core.proofs.QuestionLemmas.{found-none, found-some}
use Rattle.xpt_core.proofs.state.State.unsent.Goals as goal

pub returns-in_err-record : goal.returns-in_err-record
returns-in_err-record c =
    c.from_residual.ensures ∙ found-none c.self.inside.queues c.self.inside.stays c.self.invariant.stays c.args.self.now c.self.view_is
    (ap (find is_unsent) (sym c.deref.ensures.value) ∙ sym c.first_unsent.ensures ∙ c.in_err-record.was)

pub returns : goal.returns
returns c =
    found-some c.self.inside.queues c.self.inside.stays c.self.invariant.stays c.args.self.now c.self.view_is c.in_ok-record.record
    (ap (find is_unsent) (sym c.deref.ensures.value) ∙ sym c.first_unsent.ensures ∙ c.in_ok-record.was)
