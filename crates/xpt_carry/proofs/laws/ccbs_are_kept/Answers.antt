use Rattle.xpt_carry.proofs.CcbLemmas.{ccbs_kept}
use Rattle.xpt_carry.proofs.laws.ccbs_are_kept.Goals as goal

pub returns : goal.returns
returns c = ccbs_kept
