use Rattle.std.proofs.Common.{length, drop, sym, ap, ◌∙◌, arith, slice_get}
use Rattle.std.proofs.lemmas.Bool.{eqb-false}
use Rattle.camq_heap.specs.Queue.{key}
use Rattle.camq_heap.proofs.OrderLemmas.{length-in_order}
use Rattle.camq_heap.proofs.QueueLemmas.{IsSound-take, HasAt-pop, in_order-pop, queue_moved}
use Rattle.camq_heap.proofs.camq.Camq.remove_first.Goals as goal

pub invariant_of-self : goal.invariant_of-self
invariant_of-self g c =
    rw c.pop-first.ensures.capacity
    (IsSound-take c.self.inside.entries.items c.pop-first.new.entries.items c.pop-first.result.0 c.self.inside.capacity _ c.pop-first.ensures.heap c.pop-first.ensures.permutation c.self.invariant)

pub returns-clause-first : goal.returns-clause-first
returns-clause-first g c =
    let some = eqb-false _ _ (sym c.if-is_empty.ensures) in
    let h = HasAt-pop c.self.inside.entries.items c.pop-first.new.entries.items c.pop-first.result.0 _ _ c.pop-first.ensures.permutation c.self.invariant (omega arith) c.pop-first.ensures.first in
    sym h.found ∙ ap (λ q. slice_get q.entries 0) c.self.view_is

pub returns-clause-rest : goal.returns-clause-rest
returns-clause-rest g c =
    let xs = c.self.inside.entries.items in
    let ys = c.pop-first.new.entries.items in
    let some = eqb-false _ _ (sym c.if-is_empty.ensures) in
    let h = HasAt-pop xs ys c.pop-first.result.0 _ _ c.pop-first.ensures.permutation c.self.invariant (omega arith) c.pop-first.ensures.first in
    queue_moved c.args.self.now xs ys _ _ (λ es. drop 1 es) _ c.self.view_is (in_order-pop xs ys _ h)

pub returns-clause-moved : goal.returns-clause-moved
returns-clause-moved g c =
    let size = length-in_order key c.self.inside.entries.items in
    λ digits below. c.pop-first.ensures.moved digits (omega (arith, size, ap (λ q. length q.entries) c.self.view_is))
