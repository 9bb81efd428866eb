use Rattle.event_rules.proofs.RangeLemmas as lemmas
use Rattle.event_rules.proofs.laws.stays_are_in_range.Goals as goal

pub returns : goal.returns
returns c = lemmas.stays_in_range
