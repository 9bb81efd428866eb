use Rattle.std.proofs.Common.{sym, subst, arith}
use Rattle.camq_heap.specs.Heap.{CanSettle}
use Rattle.camq_heap.specs.Queue.{key}
use Rattle.camq_heap.proofs.ListChangeLemmas.{CanSettle-set, IsPermutation-written, IsPermutation-changed}
use Rattle.camq_heap.proofs.heap.change.Goals as goal

pub settle-requires-clause-elsewhere : goal.settle-requires-clause-elsewhere
settle-requires-clause-elsewhere g c =
    subst (λ xs. CanSettle key xs c.args.at) (sym c.deref_mut.ensures.value) (CanSettle-set key c.args.entries.now.items c.args.at _ c.requires.heap)

pub returns-clause-permutation : goal.returns-clause-permutation
returns-clause-permutation g c = λ e is.
    IsPermutation-written _ _ _ _ (IsPermutation-changed c.args.entries.now.items _ _ c.args.at _ e (λ z. record z { priority = c.args.priority }) (omega arith)
    c.index_mut.ensures.value is c.deref_mut.ensures.value c.settle.ensures.permutation) (omega arith)
