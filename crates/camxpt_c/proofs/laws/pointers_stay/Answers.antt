use Rattle.camxpt_c.proofs.LawLemmas.{user_stays}
use Rattle.camxpt_c.proofs.laws.pointers_stay.Goals as goal

pub returns : goal.returns
returns c = user_stays
