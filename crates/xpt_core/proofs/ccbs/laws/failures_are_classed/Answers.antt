use Rattle.xpt_core.proofs.LawLemmas as lemmas
use Rattle.xpt_core.proofs.ccbs.laws.failures_are_classed.Goals as goal

pub returns : goal.returns
returns c = lemmas.failures_are_classed
