use Rattle.conversions.proofs.LawLemmas.{in_order}
use Rattle.conversions.proofs.laws.submits_are_in_order.Goals as goal

pub returns : goal.returns
returns c = in_order
