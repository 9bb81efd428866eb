use Rattle.event_rules.proofs.LimitLemmas.{legal-next}
use Rattle.event_rules.proofs.laws.each_is_legal.Goals as goal

pub returns : goal.returns
returns c = legal-next
