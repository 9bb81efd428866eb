use Rattle.conversions.proofs.LawLemmas.{exact}
use Rattle.conversions.proofs.laws.plain_is_exact.Goals as goal

pub returns : goal.returns
returns c = exact
