use Rattle.std.proofs.Common.{length, ap, ◌∙◌, arith}
use Rattle.camq_heap.specs.Order.{place}
use Rattle.camq_heap.specs.Queue.{key, has_generation}
use Rattle.camq_heap.proofs.OrderLemmas.{length-in_order}
use Rattle.camq_heap.proofs.QueueLemmas.{IsSound-push, in_order-push, queue_moved}
use Rattle.camq_heap.proofs.camq.Camq.insert_reserved.Goals as goal

pub push-self-inside-requires-clause-room : goal.push-self-inside-requires-clause-room
push-self-inside-requires-clause-room g c =
    let size = length-in_order key c.self.inside.entries.items in
    omega (arith, size, ap (λ q. length q.entries) c.self.view_is, ap (λ q. q.capacity) c.self.view_is)

pub invariant_of-self : goal.invariant_of-self
invariant_of-self g c =
    let xs = c.self.inside.entries.items in
    let size = length-in_order key xs in
    rw c.push-self-inside.ensures.capacity
    (IsSound-push xs c.push-self-inside.new.entries.items _ c.self.inside.capacity _ (ap (λ q. has_generation c.args.generation q.entries) c.self.view_is ∙ c.requires.new_generation)
    c.ranges.generation.fits c.push-self-inside.ensures.heap c.push-self-inside.ensures.permutation
    (omega (arith, size, ap (λ q. length q.entries) c.self.view_is, ap (λ q. q.capacity) c.self.view_is)) c.self.invariant)

pub returns-clause-placed : goal.returns-clause-placed
returns-clause-placed g c =
    let xs = c.self.inside.entries.items in
    queue_moved c.args.self.now xs c.push-self-inside.new.entries.items _ _ (place key (record { priority = c.args.priority; generation = c.args.generation; item = c.args.item })) _ c.self.view_is
    (in_order-push xs c.push-self-inside.new.entries.items _ _ _ (ap (λ q. has_generation c.args.generation q.entries) c.self.view_is ∙ c.requires.new_generation)
    c.ranges.generation.fits c.push-self-inside.ensures.permutation c.self.invariant)

pub returns-clause-moved : goal.returns-clause-moved
returns-clause-moved g c =
    let size = length-in_order key c.self.inside.entries.items in
    λ digits below. c.push-self-inside.ensures.moved digits (omega (arith, size, ap (λ q. length q.entries) c.self.view_is))
