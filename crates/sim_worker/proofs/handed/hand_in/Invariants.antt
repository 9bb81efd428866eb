use Rattle.std.proofs.Common.{◌≡◌, ◌++◌, length}
use Rattle.std.specs.Vec.Iter.{into_iter_items}
use Rattle.sim_worker.proofs.handed.hand_in.Given as goal

abbrev pub invariant-loop-port : goal.invariant-loop-port
invariant-loop-port g l = record {
  rest : l.yielded ++ into_iter_items l.port-iterator ≡ l.fn.ports.items;
  count : length l.lanes.items ≡ length l.yielded;
}
