use Rattle.std.proofs.Common.{◌-◌, arith}
use Rattle.wait_causes.specs.Origins.{cause_of}
use Rattle.wait_causes.proofs.FirstWaitsLemmas.{changes_step, few_changes}
use Rattle.wait_causes.proofs.cause_runs.changes_of.Goals as goal

pub with_change-count-requires-clause-few : goal.with_change-count-requires-clause-few
with_change-count-requires-clause-few c =
    omega (arith, few_changes (cause_of c.args.origin.now c.args.device) (c.loop-round.round - 1), c.loop-round.invariant.1, c.loop-round.auto.round)

pub loop-round-preserved : goal.loop-round-preserved
loop-round-preserved c =
    rw c.in_ok-push-2.ensures.items
    (changes_step (cause_of c.args.origin.now c.args.device) c.loop-round.changes.items c.loop-round.round c.loop-round.count c.with_change-count.result (omega (arith, c.loop-round.auto.round)) c.loop-round.invariant.0 c.loop-round.invariant.1 c.loop-round.invariant.2 c.with_change-count.ensures)
