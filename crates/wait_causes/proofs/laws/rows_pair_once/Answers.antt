use Rattle.wait_causes.proofs.PairLemmas.{pair_once}
use Rattle.wait_causes.proofs.laws.rows_pair_once.Goals as goal

pub returns : goal.returns
returns c = pair_once
