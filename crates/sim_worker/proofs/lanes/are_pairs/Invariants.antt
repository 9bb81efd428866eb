use Rattle.std.proofs.Common.{take, ◌*◌}
use Rattle.sim_worker.specs.Walks.{ArePairs}
use Rattle.sim_worker.proofs.lanes.are_pairs.Given as goal

abbrev pub invariant-loop-k : goal.invariant-loop-k
invariant-loop-k l = ArePairs l.lane (take (l.k * 2) l.log) (take l.k l.served)
