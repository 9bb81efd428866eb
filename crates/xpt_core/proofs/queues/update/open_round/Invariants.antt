use Rattle.std.proofs.Common.{◌≡◌, ◌++◌, map, take, drop}
use Rattle.xpt_core.specs.AdapterUpdates.{in_next_round}
use Rattle.xpt_core.proofs.queues.update.open_round.Given as goal

abbrev pub invariant-loop-sim : goal.invariant-loop-sim
invariant-loop-sim l =
    l.sim-items ≡ map in_next_round (take l.sim-index l.initial.sim-items) ++ drop l.sim-index l.initial.sim-items
