use Rattle.conversions.proofs.LawLemmas.{requests_in_rounds}
use Rattle.conversions.proofs.laws.requests_are_in_their_rounds.Goals as goal

pub returns : goal.returns
returns c = requests_in_rounds
