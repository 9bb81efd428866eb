use Rattle.std.proofs.Common.{◌∙◌, arith}
use Rattle.camq_heap.specs.Queue.{key}
use Rattle.camq_heap.proofs.ListChangeLemmas.{CanRise-push, IsPermutation-written, IsPermutation-pushed, IsAtMostDigits-exchanges}
use Rattle.camq_heap.proofs.heap.push.Goals as goal

pub rise-requires-clause-above : goal.rise-requires-clause-above
rise-requires-clause-above g c =
    CanRise-push key _ _ _ _ (c.deref_mut.ensures.value ∙ c.push_reserved.ensures.items) (omega arith) c.requires.heap

pub returns-clause-permutation : goal.returns-clause-permutation
returns-clause-permutation g c =
    IsPermutation-written _ _ _ _ (IsPermutation-pushed _ _ _ _ (c.deref_mut.ensures.value ∙ c.push_reserved.ensures.items) c.rise.ensures.permutation) (omega arith)

pub returns-clause-moved : goal.returns-clause-moved
returns-clause-moved g c = IsAtMostDigits-exchanges _ _ (omega (arith, c.rise.ensures.moved))
