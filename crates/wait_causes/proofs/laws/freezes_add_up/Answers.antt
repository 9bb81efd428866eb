use Rattle.wait_causes.proofs.SumLemmas.{costs_add_up}
use Rattle.wait_causes.proofs.laws.freezes_add_up.Goals as goal

pub returns : goal.returns
returns c = costs_add_up
