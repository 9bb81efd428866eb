-- the events of a history
use Rattle.std.proofs.Common.{◌≡◌, subst, true}
use Rattle.event_rules.specs.Legal.{history_rules, is_legal_event}
use Rattle.event_rules.specs.declared.event.Event.{Event}
use Rattle.event_rules.proofs.LegalLemmas.{legal-none}
use Rattle.xpt_core.specs.Transport.{Transport}
use Rattle.xpt_core.specs.Takes.{IsTaken}

-- an event that a history takes is legal in it
pub taken_legal : (old new : Transport) (e : Event) → old.rules ≡ history_rules → IsTaken old e new → is_legal_event history_rules old.config (old.events, e) ≡ true
taken_legal old new e is taken = subst (λ rules. is_legal_event rules old.config (old.events, e) ≡ true) is (legal-none old.rules old.config old.events e taken.0)
