use Rattle.audit_report.proofs.ProveLemmas.{proved_or_failed, proved_there}
use Rattle.audit_report.proofs.prove.run_prove.Goals as goal

pub returns-in_err-input-clause-audited : goal.returns-in_err-input-clause-audited
returns-in_err-input-clause-audited g c =
    λ i text kept audit. proved_or_failed _ _ i text _ _ _ kept audit c.read_net.ensures.only c.in_err-input.was c.from_residual.ensures.1

pub returns-clause-ended : goal.returns-clause-ended
returns-clause-ended g c = c.prove_net.ensures.ended _ _ _ _ c.in_ok-input.ensures.found

pub returns-clause-audited : goal.returns-clause-audited
returns-clause-audited g c =
    λ i text kept audit. proved_there _ _ i _ text _ _ _ kept audit c.read_net.ensures.only c.in_ok-input.was c.prove_net.ensures.audited
