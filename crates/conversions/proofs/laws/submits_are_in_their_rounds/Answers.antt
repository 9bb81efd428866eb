use Rattle.conversions.proofs.LawLemmas.{history_in_rounds}
use Rattle.conversions.proofs.laws.submits_are_in_their_rounds.Goals as goal

pub returns : goal.returns
returns c = history_in_rounds
