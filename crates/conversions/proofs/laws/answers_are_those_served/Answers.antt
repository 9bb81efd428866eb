use Rattle.conversions.proofs.LawLemmas.{those_served}
use Rattle.conversions.proofs.laws.answers_are_those_served.Goals as goal

pub returns : goal.returns
returns c = those_served
