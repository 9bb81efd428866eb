use Rattle.std.proofs.Common.{length, ap, arith}
use Rattle.camq_heap.specs.Queue.{key}
use Rattle.camq_heap.proofs.OrderLemmas.{length-in_order}
use Rattle.camq_heap.proofs.camq.Camq.len.Goals as goal

pub returns-clause-value : goal.returns-clause-value
returns-clause-value g c = omega (arith, length-in_order key c.self.inside.entries.items, ap (λ q. length q.entries) c.self.view_is)

pub returns-clause-most : goal.returns-clause-most
returns-clause-most g c = omega (arith, ap (λ q. q.capacity) c.self.view_is)
