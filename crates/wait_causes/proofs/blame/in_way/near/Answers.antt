use Rattle.wait_causes.specs.BlameLists.{stays_in}
use Rattle.wait_causes.proofs.WayLemmas.{all_are_near, own_are_near}
use Rattle.wait_causes.proofs.blame.in_way.near.Goals as goal

pub returns-then-waits_above : goal.returns-then-waits_above
returns-then-waits_above c = all_are_near c.args.explanation.now.origin c.args.device (stays_in c.args.explanation.now) c.stays.result.now c.stays.ensures.stays

pub returns-else-waits_above : goal.returns-else-waits_above
returns-else-waits_above c = own_are_near c.args.explanation.now.origin c.args.device (stays_in c.args.explanation.now) c.args.own.now (c.waits_above.ensures c.if-waits_above.false) c.requires.own
