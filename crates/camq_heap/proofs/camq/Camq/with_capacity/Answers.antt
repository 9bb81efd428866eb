use Rattle.std.proofs.Common.{arith}
use Rattle.camq_heap.proofs.QueueLemmas.{IsSound-none}
use Rattle.camq_heap.proofs.camq.Camq.with_capacity.Goals as goal

pub invariant_of-result : goal.invariant_of-result
invariant_of-result g c = IsSound-none _ _ _ c.in_ok-with_capacity.ensures.items (omega (arith, c.in_ok-with_capacity.ensures.exact))
