use Rattle.std.proofs.Common.{◌≡◌, length}
use Rattle.sim_worker.specs.Work.{AreFresh}
use Rattle.sim_worker.proofs.sim.first_lanes.Given as goal

abbrev pub invariant-loop-at : goal.invariant-loop-at
invariant-loop-at l = record {
  len : length l.lanes.items ≡ l.at;
  fresh : AreFresh l.script l.lanes.items;
}
