use Rattle.xpt_carry.proofs.FreezeLaws.{no_errors}
use Rattle.xpt_carry.proofs.laws.no_error_freezes.Goals as goal

pub returns : goal.returns
returns c = no_errors
