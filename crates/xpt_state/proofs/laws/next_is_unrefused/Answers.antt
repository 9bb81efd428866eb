use Rattle.xpt_state.proofs.LaneLemmas as lemmas
use Rattle.xpt_state.proofs.laws.next_is_unrefused.Goals as goal

pub returns : goal.returns
returns c = lemmas.next_unrefused
