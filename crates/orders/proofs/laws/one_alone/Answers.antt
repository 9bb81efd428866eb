use Rattle.orders.proofs.LawLemmas.{one-alone}
use Rattle.orders.proofs.laws.one_alone.Goals as goal

pub returns : goal.returns
returns c = one-alone
