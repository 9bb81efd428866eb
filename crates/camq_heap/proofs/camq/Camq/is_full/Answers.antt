use Rattle.std.proofs.Common.{length, ap, arith, leb-true, le-leb}
use Rattle.camq_heap.specs.Queue.{key}
use Rattle.camq_heap.proofs.OrderLemmas.{length-in_order}
use Rattle.camq_heap.proofs.camq.Camq.is_full.Goals as goal

pub returns : goal.returns
returns g c =
    let size = length-in_order key c.self.inside.entries.items in (
      λ t. let le = leb-true _ _ t in omega (arith, le, size, ap (λ q. length q.entries) c.self.view_is, ap (λ q. q.capacity) c.self.view_is),
      λ h. le-leb _ _ (omega (arith, size, ap (λ q. length q.entries) c.self.view_is, ap (λ q. q.capacity) c.self.view_is)),
    )
