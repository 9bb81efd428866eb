use Rattle.std.proofs.Common.{◌≡◌, ◌∙◌, true, sym, subst}
use Rattle.event_rules.specs.contracts.event.EventPartialEq.TheImpl as events
use Rattle.event_rules.specs.contracts.event.EventEq.TheImpl.Laws.{laws-law}
use Rattle.xpt_lock.proofs.SameLemmas.{same_event}
use Rattle.sim_worker.specs.Words.{Event}
use Rattle.sim_worker.proofs.same.are_same.Goals as goal

pub returns : goal.returns
returns c = (
  (λ e. same_event _ _ (sym c.eq.ensures ∙ e)),
  λ e. c.eq.ensures ∙ subst (λ (x : Event). events.ghosts.eq c.args.one.now x ≡ true) e (laws-law.refl c.args.one.now),
)
