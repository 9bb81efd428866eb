use Rattle.camxpt_c.proofs.LawLemmas.{user_goes_on}
use Rattle.camxpt_c.proofs.laws.pointers_go_on.Goals as goal

pub returns : goal.returns
returns c = user_goes_on
