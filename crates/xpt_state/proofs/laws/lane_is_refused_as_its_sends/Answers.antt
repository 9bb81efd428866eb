use Rattle.xpt_state.proofs.LaneLemmas as lemmas
use Rattle.xpt_state.proofs.laws.lane_is_refused_as_its_sends.Goals as goal

pub returns : goal.returns
returns c = lemmas.lane_refused
