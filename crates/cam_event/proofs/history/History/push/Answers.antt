use Rattle.std.proofs.Common.{◌≡◌, ap, subst, true, ◌∙◌}
use Rattle.event_rules.specs.Legal.{history_rules, is_legal_event}
use Rattle.event_rules.specs.Past.{Past}
use Rattle.xpt_core.specs.Transport.{Transport}
use Rattle.cam_event.proofs.HistoryLemmas.{taken_legal}
use Rattle.cam_event.proofs.history.History.push.Goals as goal

pub returns-clause-legal : goal.returns-clause-legal
returns-clause-legal c =
    let old = c.deref_mut.result.now in
    let rules = ap (λ (t : Transport). t.rules) c.deref_mut.ensures.value ∙ c.self.invariant in
    subst (λ (p : Past). is_legal_event history_rules p.config (p.events, c.args.event) ≡ true) c.self.view_is
    (subst (λ (t : Transport). is_legal_event history_rules t.config (t.events, c.args.event) ≡ true) c.deref_mut.ensures.value
    (taken_legal old c.take.new.self c.args.event rules c.in_default.ensures))
