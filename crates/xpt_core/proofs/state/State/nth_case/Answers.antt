use Rattle.std.proofs.Common.{ap, ◌∙◌, slice_get}
use Rattle.xpt_core.proofs.CcbLemmas.{nth_recovers}
use Rattle.xpt_core.proofs.state.State.nth_case.Goals as goal

pub returns-clause-recovering : goal.returns-clause-recovering
returns-clause-recovering c = nth_recovers c.self.inside.queues c.self.inside.ccbs c.self.invariant.ccbs c.args.self.now c.self.view_is c.args.number c.case_at.result
    (c.case_at.ensures ∙ ap (λ ks. slice_get ks c.args.number) c.deref.ensures.value)
