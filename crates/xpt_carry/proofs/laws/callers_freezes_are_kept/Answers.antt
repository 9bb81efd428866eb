use Rattle.xpt_carry.proofs.FreezeLaws.{callers_kept}
use Rattle.xpt_carry.proofs.laws.callers_freezes_are_kept.Goals as goal

pub returns : goal.returns
returns c = callers_kept
