use Rattle.xpt_core.proofs.LawLemmas as lemmas
use Rattle.xpt_core.proofs.ccbs.laws.first_case_failed_first.Goals as goal

pub returns : goal.returns
returns c = lemmas.first_case_failed_first
