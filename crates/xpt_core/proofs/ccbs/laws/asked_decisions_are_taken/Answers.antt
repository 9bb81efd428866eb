use Rattle.xpt_core.proofs.LawLemmas as lemmas
use Rattle.xpt_core.proofs.ccbs.laws.asked_decisions_are_taken.Goals as goal

pub returns : goal.returns
returns c = lemmas.asked_decisions_are_taken
