use Rattle.std.proofs.Common.{sym, ◌∙◌}
use Rattle.audit_report.proofs.AuditLemmas.{live_is_known}
use Rattle.audit_report.proofs.CheckLemmas.{history_counted}
use Rattle.audit_report.proofs.check.Counts.of_history.Goals as goal

pub unreachable-requires : goal.unreachable-requires
unreachable-requires c = live_is_known _ _ (sym c.unsent.ensures ∙ c.in_default.is) (sym c.live_cost.ensures ∙ c.in_default-live_cost.is)

pub returns-clause-counted : goal.returns-clause-counted
returns-clause-counted c =
    history_counted c.args.history.now _ (sym c.unsent.ensures ∙ c.in_default.is) c.commands.ensures c.stay_count.ensures.same c.round.ensures.same (sym c.live_cost.ensures ∙ c.in-Some-live_cost.is)
