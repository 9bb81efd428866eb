use Rattle.std.proofs.Common.{refl, ap, arith, length}
use Rattle.price_check.proofs.DualityLemmas.{best_where_proved}
use Rattle.audit_report.proofs.AuditLemmas.{is_audit}
use Rattle.audit_report.proofs.CostLemmas.{report-short}
use Rattle.audit_report.proofs.audit.audit_text.Goals as goal

pub of-costs-requires-clause-best : goal.of-costs-requires-clause-best
of-costs-requires-clause-best c = best_where_proved _ _ _ _ c.stays.ensures.sound c.requires.proved

pub returns : goal.returns
returns c = λ i same sent legal.
    is_audit _ i _ _ _ (record { schedule = c.args.best.now.schedule; prices = c.args.best.now.prices; best = c.of-costs.result.best; excess = c.of-costs.result.excess })
    same
    (record {
      sound = c.stays.ensures.sound;
      stays = c.requires.stays;
      cells = c.requires.cells;
      priced = c.cells.ensures.priced;
      proved = c.requires.proved;
      keeps = c.requires.live;
      turns = c.requires.turns;
      small = c.of-costs.ensures.small;
      lived = c.of-costs.ensures.live;
      best = c.of-costs.ensures.best;
      excess = c.of-costs.ensures.excess;
      made = rw (c.in_ok-push_rest.ensures.text, c.in_ok-push_summary.ensures.text, c.in_ok-text.ensures.items) refl;
    })
    sent legal
    (let short = rw (← same) at (report-short i legal (rw same at c.stays.ensures.sound)) in
    omega (arith, short, c.in_ok-push_rest.ensures.short, c.in_ok-push_summary.ensures.short, ap length c.in_ok-text.ensures.items))
