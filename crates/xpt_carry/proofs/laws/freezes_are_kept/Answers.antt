use Rattle.xpt_carry.proofs.FreezeLaws.{freezes_kept}
use Rattle.xpt_carry.proofs.laws.freezes_are_kept.Goals as goal

pub returns : goal.returns
returns c = freezes_kept
