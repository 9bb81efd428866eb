use Rattle.std.proofs.Common.{sym, subst, arith, eqb-true, IsPermutation}
use Rattle.camq_heap.specs.Heap.{CanSink}
use Rattle.camq_heap.specs.Queue.{key}
use Rattle.camq_heap.proofs.SiftLemmas.{few_exchanges}
use Rattle.camq_heap.proofs.ListChangeLemmas.{IsHeap-short, CanSink-changed, IsPermutation-written, IsPermutation-taken, IsAtMostDigits-moves}
use Rattle.camq_heap.proofs.heap.pop.Goals as goal

pub returns-then-is_empty-clause-heap : goal.returns-then-is_empty-clause-heap
returns-then-is_empty-clause-heap g c = let none = eqb-true _ _ (sym c.if-is_empty.ensures) in IsHeap-short key _ (omega (arith, none))

pub sink-requires-clause-below : goal.sink-requires-clause-below
sink-requires-clause-below g c =
    let left = c.swap_remove-first in
    subst (λ xs. CanSink key xs 0) (sym c.deref_mut.ensures.value)
    (CanSink-changed key c.args.entries.now.items left.new.self.items (omega arith) (λ k d k_0 inside. left.ensures.by_index.1 k d k_0 (omega arith)) c.requires.heap)

pub overflow_add-result : goal.overflow_add-result
overflow_add-result g c = omega (arith, few_exchanges c.sink.result c.swap_remove-first.new.self.len (omega (arith, c.sink.ensures.moved)) (omega arith))

pub returns-clause-permutation : goal.returns-clause-permutation
returns-clause-permutation g c =
    let left = c.swap_remove-first in
    IsPermutation-taken c.args.entries.now.items left.new.self.items _ 0 _ (omega arith) left.ensures.value left.ensures.items
    (IsPermutation-written _ _ _ _ (subst (λ xs. IsPermutation xs c.sink.new.entries) c.deref_mut.ensures.value c.sink.ensures.permutation) (omega arith))

pub returns-clause-moved : goal.returns-clause-moved
returns-clause-moved g c = IsAtMostDigits-moves _ _ c.sink.ensures.moved _ (omega arith)
