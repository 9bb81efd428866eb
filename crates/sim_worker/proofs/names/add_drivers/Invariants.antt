use Rattle.std.proofs.Common.{◌≡◌}
use Rattle.sim_worker.specs.LiveRuns.{drivers}
use Rattle.sim_worker.proofs.names.add_drivers.Given as goal

abbrev pub invariant-loop-driver : goal.invariant-loop-driver
invariant-loop-driver l = l.names.items ≡ drivers l.script l.driver
