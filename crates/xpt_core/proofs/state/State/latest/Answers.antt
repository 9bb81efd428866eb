use Rattle.std.proofs.Common.{ap, sym, ◌∙◌, slice_get}
use Rattle.xpt_core.proofs.QuestionLemmas.{latest-none, latest-within, latest-some}
use Rattle.xpt_core.proofs.state.State.latest.Goals as goal

pub returns-in_err-stay : goal.returns-in_err-stay
returns-in_err-stay c =
    c.from_residual.ensures ∙ sym (latest-none c.self.inside.queues c.self.inside.stays c.self.invariant.stays c.args.self.now c.self.view_is c.args.ccb
    (ap (λ ns. slice_get ns c.args.ccb) (sym c.deref.ensures.value) ∙ sym c.place.ensures ∙ c.in_err-stay.was))

pub index-requires : goal.index-requires
index-requires c =
    latest-within c.self.inside.queues c.self.inside.stays c.self.invariant.stays c.args.self.now c.self.view_is c.args.ccb c.in_ok-stay.stay
    (ap (λ ns. slice_get ns c.args.ccb) (sym c.deref.ensures.value) ∙ sym c.place.ensures ∙ c.in_ok-stay.was)

pub returns : goal.returns
returns c =
    latest-some c.self.inside.queues c.self.inside.stays c.self.invariant.stays c.args.self.now c.self.view_is c.args.ccb c.in_ok-stay.stay c.index.result.now
    (ap (λ ns. slice_get ns c.args.ccb) (sym c.deref.ensures.value) ∙ sym c.place.ensures ∙ c.in_ok-stay.was) c.index.ensures
