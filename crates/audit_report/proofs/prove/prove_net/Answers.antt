use Rattle.audit_report.proofs.ProveLemmas.{fault_there, found_there, proved_found}
use Rattle.audit_report.proofs.prove.prove_net.Goals as goal

pub returns-in-Err-clause-audited : goal.returns-in-Err-clause-audited
returns-in-Err-clause-audited g c = λ text kept a. fault_there _ c.args.input.now text c.args.net.now c.read_claim.result c.in-Err.fault kept a c.requires.net c.read_claim.ensures.only c.in-Err.is

pub returns-in-Ok-write_whole-clause-audited : goal.returns-in-Ok-write_whole-clause-audited
returns-in-Ok-write_whole-clause-audited g c = λ text kept a.
    proved_found _ text c.args.net.now c.in-Ok.claim c.in_ok-finding.finding c.is_proved.result
    (found_there _ c.args.input.now text c.args.net.now c.read_claim.result c.in-Ok.claim kept a c.requires.net c.read_claim.ensures.only c.in-Ok.is) c.in_ok-finding.ensures.right c.is_proved.ensures
