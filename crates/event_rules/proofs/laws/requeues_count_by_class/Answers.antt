use Rattle.event_rules.proofs.LawLemmas as lemmas
use Rattle.event_rules.proofs.laws.requeues_count_by_class.Goals as goal

pub returns : goal.returns
returns c = lemmas.requeues_count_by_class
