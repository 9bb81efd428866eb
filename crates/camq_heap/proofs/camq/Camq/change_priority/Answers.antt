use Rattle.std.proofs.Common.{◌<◌, length, ap, ◌∙◌, arith}
use Rattle.std.proofs.lemmas.List.Sorted.{length_permutation}
use Rattle.camq_heap.specs.Queue.{key, change_priority}
use Rattle.camq_heap.proofs.OrderLemmas.{length-in_order}
use Rattle.camq_heap.proofs.QueueLemmas.{keys_apart, Changes-place, Ordered-from, queue_changed}
use Rattle.camq_heap.proofs.camq.Camq.change_priority.Goals as goal

pub find-requires-clause-apart : goal.find-requires-clause-apart
find-requires-clause-apart g c = keys_apart _ c.self.invariant.apart c.self.invariant.fits

pub change-requires-clause-in_range : goal.change-requires-clause-in_range
change-requires-clause-in_range g c =
    let xs = c.self.inside.entries.items in
    let same = length_permutation xs c.find.new.entries.items c.find.ensures.permutation in
    omega (arith, length-in_order key xs, ap (λ q. length q.entries) c.self.view_is, same)

pub invariant_of-self : goal.invariant_of-self
invariant_of-self g c =
    let ys = c.find.new.entries.items in
    let h = Ordered-from c.self.inside.entries.items ys c.self.inside.capacity _ c.find.ensures.heap c.find.ensures.permutation c.self.invariant in
    let inside : c.args.i < length ys = omega (arith, length-in_order key c.self.inside.entries.items, ap (λ q. length q.entries) c.self.view_is, length_permutation c.self.inside.entries.items ys c.find.ensures.permutation) in
    let changed = Changes-place ys c.change.new.entries.items c.args.i c.args.priority c.self.inside.capacity _ inside
    (λ d. c.find.ensures.place d inside) c.change.ensures.permutation c.change.ensures.heap h.sound in
    rw (c.change.ensures.capacity, c.find.ensures.capacity) changed.sound

pub returns : goal.returns
returns g c =
    let xs = c.self.inside.entries.items in
    let ys = c.find.new.entries.items in
    let zs = c.change.new.entries.items in
    let h = Ordered-from xs ys c.self.inside.capacity _ c.find.ensures.heap c.find.ensures.permutation c.self.invariant in
    let inside : c.args.i < length ys = omega (arith, length-in_order key c.self.inside.entries.items, ap (λ q. length q.entries) c.self.view_is, length_permutation c.self.inside.entries.items ys c.find.ensures.permutation) in
    let changed = Changes-place ys zs c.args.i c.args.priority c.self.inside.capacity _ inside
    (λ d. c.find.ensures.place d inside) c.change.ensures.permutation c.change.ensures.heap h.sound in
    queue_changed c.args.self.now xs zs _ _ (λ es. change_priority es c.args.i c.args.priority) c.self.view_is (changed.order ∙ ap (λ es. change_priority es c.args.i c.args.priority) h.order)
