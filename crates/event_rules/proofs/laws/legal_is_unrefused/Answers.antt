use Rattle.event_rules.proofs.LegalLemmas as lemmas
use Rattle.event_rules.proofs.laws.legal_is_unrefused.Goals as goal

pub returns : goal.returns
returns c = lemmas.legal-unrefused
