use Rattle.audit_report.proofs.audit.run_audit.Goals as goal

pub returns-clause-ended : goal.returns-clause-ended
returns-clause-ended g c = c.write_audit.ensures.ended _ _ _ c.in_ok-input.ensures.found
