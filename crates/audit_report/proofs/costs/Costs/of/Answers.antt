use Rattle.std.proofs.Common.{arith}
use Rattle.audit_report.proofs.AuditLemmas.{least_le_live}
use Rattle.audit_report.proofs.CostLemmas.{cost-small}
use Rattle.audit_report.proofs.costs.Costs.of.Goals as goal

pub overflow_sub-result : goal.overflow_sub-result
overflow_sub-result c = least_le_live _ _ _ _ c.cost.ensures.sound c.requires.best c.live_cost-live.ensures.same c.in-Some.ensures.waits.1

pub returns-clause-small : goal.returns-clause-small
returns-clause-small c = omega (arith, c.live_cost-live.ensures.same, cost-small _ _ _ c.cost.ensures.sound c.cost.ensures.sound.live_admissible)
