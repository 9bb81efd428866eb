use Rattle.std.proofs.Common.{length, sym, ap, ◌∙◌, arith, slice_get, remove}
use Rattle.camq_heap.specs.Queue.{key}
use Rattle.camq_heap.proofs.OrderLemmas.{length-in_order}
use Rattle.camq_heap.proofs.QueueLemmas.{keys_apart, IsSound-take, HasAt-place, queue_changed}
use Rattle.camq_heap.proofs.camq.Camq.remove_at.Goals as goal

pub take-requires-clause-apart : goal.take-requires-clause-apart
take-requires-clause-apart g c = keys_apart _ c.self.invariant.apart c.self.invariant.fits

pub take-requires-clause-in_range : goal.take-requires-clause-in_range
take-requires-clause-in_range g c =
    omega (arith, length-in_order key c.self.inside.entries.items, ap (λ q. length q.entries) c.self.view_is)

pub invariant_of-self : goal.invariant_of-self
invariant_of-self g c =
    rw c.take.ensures.capacity
    (IsSound-take c.self.inside.entries.items c.take.new.entries.items c.take.result c.self.inside.capacity _ c.take.ensures.heap c.take.ensures.permutation c.self.invariant)

pub returns-clause-entry : goal.returns-clause-entry
returns-clause-entry g c =
    let at = HasAt-place c.self.inside.entries.items c.take.new.entries.items c.args.i _ _ c.take.result c.take.ensures.place c.take.ensures.permutation c.self.invariant in
    sym (ap (λ q. slice_get q.entries c.args.i) c.self.view_is) ∙ at.found

pub returns-clause-rest : goal.returns-clause-rest
returns-clause-rest g c =
    let xs = c.self.inside.entries.items in
    let zs = c.take.new.entries.items in
    let at = HasAt-place xs zs c.args.i _ _ c.take.result c.take.ensures.place c.take.ensures.permutation c.self.invariant in
    queue_changed c.args.self.now xs zs _ _ (λ es. remove es c.args.i) c.self.view_is (sym at.rest)
