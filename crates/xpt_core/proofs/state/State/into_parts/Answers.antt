use Rattle.std.proofs.Common.{◌≡◌, true, subst}
use Rattle.event_rules.specs.Legal.{history_rules, is_legal}
use Rattle.event_rules.proofs.LawLemmas.{narrower_is_legal}
use Rattle.xpt_core.specs.Transport.{Transport}
use Rattle.xpt_core.proofs.state.State.into_parts.Goals as goal

pub returns-clause-legal : goal.returns-clause-legal
returns-clause-legal c =
    let t = c.self.inside.queues in
    subst (λ (x : Transport). is_legal history_rules x.config x.events ≡ true) c.self.view_is
    (narrower_is_legal t.rules t.config t.events c.self.invariant.ccbs.within c.self.invariant.ccbs.legal)
