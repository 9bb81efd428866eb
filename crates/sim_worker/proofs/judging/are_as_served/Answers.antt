use Rattle.std.proofs.Common.{map, refl, arith}
use Rattle.sim_worker.specs.LiveRuns.{IsLog}
use Rattle.sim_worker.proofs.RunListFacts.{get_is, there_is}
use Rattle.sim_worker.proofs.PassLemmas.{log_more}
use Rattle.sim_worker.proofs.judging.are_as_served.Goals as goal

pub loop-log-preserved : goal.loop-log-preserved
loop-log-preserved g c = λ s events drivers.
    log_more (λ h. IsLog s events (map (λ p. g.P.Port.list p) c.args.ports.now) c.args.full h.name h) c.args.logs.now c.loop-log.log-index c.log-item.result c.loop-log-test.true c.log-item.is
    (c.if-not-is_as_served.ensures.yes refl s events (drivers c.loop-log.log-index c.log-item.result (get_is c.args.logs.now c.loop-log.log-index c.log-item.result c.loop-log-test.true c.log-item.is)))
    (c.loop-log.invariant s events drivers)

pub returns-then-not-is_as_served-clause-no : goal.returns-then-not-is_as_served-clause-no
returns-then-not-is_as_served-clause-no g c = λ _ s events all.
    c.if-not-is_as_served.ensures.no refl s events (all c.loop-log.log-index c.log-item.result (get_is c.args.logs.now c.loop-log.log-index c.log-item.result c.loop-log-test.true c.log-item.is))

pub returns-clause-yes : goal.returns-clause-yes
returns-clause-yes g c = λ _ s events drivers i h at. c.loop-log.invariant s events drivers i h (omega (arith, there_is c.args.logs.now i h at, c.loop-log-test.false)) at
