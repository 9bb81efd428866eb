use Rattle.xpt_core.proofs.LawLemmas as lemmas
use Rattle.xpt_core.proofs.ccbs.laws.decisions_end_cases.Goals as goal

pub returns : goal.returns
returns c = lemmas.decisions_end_cases
