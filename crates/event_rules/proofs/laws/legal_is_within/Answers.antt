use Rattle.event_rules.proofs.WithinLemmas as lemmas
use Rattle.event_rules.proofs.laws.legal_is_within.Goals as goal

pub returns : goal.returns
returns c = lemmas.legal_is_within
