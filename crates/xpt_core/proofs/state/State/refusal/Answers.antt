use Rattle.std.proofs.Common.{◌≡◌, subst, true}
use Rattle.event_rules.specs.Legal.{is_legal}
use Rattle.xpt_core.specs.Transport.{Transport}
use Rattle.xpt_core.proofs.state.State.refusal.Goals as goal

pub refusal-requires : goal.refusal-requires
refusal-requires c = record { legal = subst (λ (t : Transport). is_legal t.rules t.config t.events ≡ true) c.self.view_is c.self.invariant.ccbs.legal }
