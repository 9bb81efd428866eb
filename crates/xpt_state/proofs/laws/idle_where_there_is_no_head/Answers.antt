use Rattle.xpt_state.proofs.IdleLemmas.{idle_is_no_next}
use Rattle.xpt_state.proofs.laws.idle_where_there_is_no_head.Goals as goal

pub returns : goal.returns
returns c = idle_is_no_next
