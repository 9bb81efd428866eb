use Rattle.wait_causes.proofs.FirstWaitsLemmas.{runs_step}
use Rattle.wait_causes.proofs.cause_runs.CauseRuns.of.Goals as goal

pub loop-device-preserved : goal.loop-device-preserved
loop-device-preserved c =
    rw c.in_ok-push.ensures.items
    (runs_step c.args.origin.now c.args.rounds c.loop-device.device c.loop-device.runs.items _ c.loop-device.invariant.0 c.loop-device.invariant.1 c.in_ok-runs_of.ensures)
