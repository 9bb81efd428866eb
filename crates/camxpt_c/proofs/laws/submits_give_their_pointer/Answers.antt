use Rattle.camxpt_c.proofs.LawLemmas.{submitted_user}
use Rattle.camxpt_c.proofs.laws.submits_give_their_pointer.Goals as goal

pub returns : goal.returns
returns c = submitted_user
