use Rattle.std.proofs.Common.{arith}
use Rattle.sim_worker.specs.LiveRuns.{rows}
use Rattle.sim_worker.specs.Logs.{Rests}
use Rattle.sim_worker.proofs.RunListFacts.{get_is, there_is}
use Rattle.sim_worker.proofs.PassLemmas.{each_more}
use Rattle.sim_worker.proofs.endings.are_resting.Goals as goal

pub loop-i-preserved : goal.loop-i-preserved
loop-i-preserved c = λ of on. each_more (λ d h. Rests c.args.script.now (rows c.args.script.now d) h.receipts c.args.xpt.now.events) c.args.logs.now c.loop-i.i c.index-logs-i.result c.loop-i-test.true c.index-logs-i.is
    (λ d name. c.is_resting.ensures.yes c.if-not-is_resting.false d name of (on c.loop-i.i d c.index-logs-i.result c.walk_at.result (get_is c.args.logs.now c.loop-i.i c.index-logs-i.result c.loop-i-test.true c.index-logs-i.is) c.walk_at.ensures name))
    (c.loop-i.invariant of on)

pub returns-clause-yes : goal.returns-clause-yes
returns-clause-yes c = λ _ of on i h at d name. c.loop-i.invariant of on i d h (omega (arith, there_is c.args.logs.now i h at, c.loop-i-test.false)) at name

pub returns-then-not-is_resting-clause-no : goal.returns-then-not-is_resting-clause-no
returns-then-not-is_resting-clause-no c = λ _ of on all.
    let log = c.index-logs-i.result in
    let at = get_is c.args.logs.now c.loop-i.i log c.loop-i-test.true c.index-logs-i.is in
    let busy = c.is_resting.ensures.no c.if-not-is_resting.true in
    busy.2 of (on c.loop-i.i busy.0 log c.walk_at.result at c.walk_at.ensures busy.1) (all c.loop-i.i log at busy.0 busy.1)
