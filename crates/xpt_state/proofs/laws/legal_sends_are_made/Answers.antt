use Rattle.xpt_state.proofs.SentLemmas.{legal_send_is_made}
use Rattle.xpt_state.proofs.laws.legal_sends_are_made.Goals as goal

pub returns : goal.returns
returns c = legal_send_is_made
