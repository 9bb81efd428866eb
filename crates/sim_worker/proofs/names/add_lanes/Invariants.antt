use Rattle.std.proofs.Common.{◌≡◌, ◌++◌}
use Rattle.sim_worker.specs.LiveRuns.{lanes}
use Rattle.sim_worker.proofs.names.add_lanes.Given as goal

abbrev pub invariant-loop-lane : goal.invariant-loop-lane
invariant-loop-lane l = l.names.items ≡ l.fn.names.items ++ lanes l.lane
