use Rattle.std.proofs.Common.{sym, ap, subst, ◌∙◌, slice_get}
use Rattle.camq_heap.specs.Order.{IsRising}
use Rattle.camq_heap.specs.Queue.{key}
use Rattle.camq_heap.proofs.OrderLemmas.{AllRising-in_order, IsRising-from}
use Rattle.camq_heap.proofs.QueueLemmas.{keys_apart, slice_get-first}
use Rattle.camq_heap.proofs.camq.Camq.first.Goals as goal

pub returns-clause-value : goal.returns-clause-value
returns-clause-value g c =
    c.first.ensures.value ∙ ap (λ xs. slice_get xs 0) c.deref.ensures.value ∙ sym (slice_get-first _ _ _ c.self.invariant) ∙ ap (λ q. slice_get q.entries 0) c.self.view_is

pub returns-clause-rising : goal.returns-clause-rising
returns-clause-rising g c =
    let xs = c.self.inside.entries.items in
    subst (λ q. IsRising key q.entries) c.self.view_is (IsRising-from key _ (AllRising-in_order key xs (keys_apart xs c.self.invariant.apart c.self.invariant.fits)))
