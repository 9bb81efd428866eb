use Rattle.event_rules.proofs.LawLemmas as lemmas
use Rattle.event_rules.proofs.laws.sends_stand_free.Goals as goal

pub returns : goal.returns
returns c = lemmas.sends_stand_free
