use Rattle.std.proofs.Common.{◌≡◌, ◌≤◌, length, map, vec_capacity}
use Rattle.std.specs.List.{range_with_len}
use Rattle.xpt_core.specs.Known.{nothing, adapter_of}
use Rattle.xpt_core.proofs.queues.open.open_queues.Given as goal

abbrev pub invariant-loop-adapter : goal.invariant-loop-adapter
invariant-loop-adapter l = record {
  so_far : l.sims.items ≡ map (adapter_of l.config nothing) (range_with_len 0 l.adapter);
  room : length l.adapters ≤ vec_capacity l.sims;
}
