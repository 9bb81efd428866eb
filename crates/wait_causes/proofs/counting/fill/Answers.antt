use Rattle.wait_causes.proofs.CountingLemmas.{set_here, set_kept}
use Rattle.wait_causes.proofs.counting.fill.Goals as goal

pub returns-in_ok-behinds-clause-kept : goal.returns-in_ok-behinds-clause-kept
returns-in_ok-behinds-clause-kept c =
    rw c.key_of-key.ensures (set_kept c.args.origin.now c.args.behinds.now.items c.args.device c.args.weight c.in_ok-behinds.field-0 c.requires.before c.requires.device c.requires.weight c.in_ok-behinds.ensures)

pub returns-in_ok-behinds-clause-filled : goal.returns-in_ok-behinds-clause-filled
returns-in_ok-behinds-clause-filled c =
    rw c.key_of-key.ensures (set_here c.args.origin.now c.args.behinds.now.items c.args.device c.args.weight c.in_ok-behinds.field-0 c.requires.before c.requires.device c.requires.weight c.in_ok-behinds.ensures)
