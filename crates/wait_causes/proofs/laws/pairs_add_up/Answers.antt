use Rattle.wait_causes.proofs.PairLemmas.{all_pairs}
use Rattle.wait_causes.proofs.laws.pairs_add_up.Goals as goal

pub returns : goal.returns
returns c = all_pairs
