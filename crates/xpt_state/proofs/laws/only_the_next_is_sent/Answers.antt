use Rattle.xpt_state.proofs.SendLemmas.{legal_is_next}
use Rattle.xpt_state.proofs.laws.only_the_next_is_sent.Goals as goal

pub returns : goal.returns
returns c = legal_is_next
