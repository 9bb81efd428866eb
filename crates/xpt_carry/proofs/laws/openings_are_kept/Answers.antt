use Rattle.xpt_carry.proofs.OpeningLaws.{openings_kept}
use Rattle.xpt_carry.proofs.laws.openings_are_kept.Goals as goal

pub returns : goal.returns
returns c = openings_kept
