use Rattle.event_rules.proofs.LawLemmas as lemmas
use Rattle.event_rules.proofs.laws.narrower_is_legal.Goals as goal

pub returns : goal.returns
returns c = lemmas.narrower_is_legal
