use Rattle.wait_causes.proofs.SplitLemmas.{split_law}
use Rattle.wait_causes.proofs.laws.behind_adds_up.Goals as goal

pub returns : goal.returns
returns c = split_law
