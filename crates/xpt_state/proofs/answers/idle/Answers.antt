use Rattle.std.proofs.Common.{Some, ap, sym, ◌∙◌, not, ◌==◌}
use Rattle.xpt_state.specs.Words.{adapter_freezes, Transport}
use Rattle.xpt_state.proofs.IdleLemmas.{idle_found}
use Rattle.xpt_state.proofs.answers.idle.Goals as goal

pub returns : goal.returns
returns c =
    idle_found c.args.state.now.config c.args.state.now.events c.args.adapter _ _ _ c.requires.none c.has_stay-queued.ensures
    (c.is_frozen-free.ensures ∙ ap (λ (t : Transport). not (adapter_freezes t.events c.args.adapter == 0)) c.queues.ensures)
    c.takes_more-left.ensures
    ∙ ap Some (sym c.by.ensures)
