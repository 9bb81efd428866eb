use Rattle.std.proofs.Common.{◌≡◌}
use Rattle.sim_worker.specs.Work.{left}
use Rattle.sim_worker.proofs.seeded.sim_run.Given as goal

abbrev pub invariant-loop-able : goal.invariant-loop-able
invariant-loop-able l = l.sim.script ≡ l.script

abbrev pub decreases-loop-able : goal.decreases-loop-able
decreases-loop-able l = left l.sim
