use Rattle.xpt_carry.proofs.FreezeLaws.{adapters_kept}
use Rattle.xpt_carry.proofs.laws.adapters_freezes_are_kept.Goals as goal

pub returns : goal.returns
returns c = adapters_kept
