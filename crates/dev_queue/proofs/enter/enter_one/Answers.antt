use Rattle.std.proofs.Common.{◌+◌, length, ap, subst, sym, ◌∙◌, arith}
use Rattle.camq_heap.specs.Queue.{key}
use Rattle.camq_heap.proofs.OrderLemmas.{length-place}
use Rattle.dev_queue.specs.Order.{waiting_of, AllBefore}
use Rattle.dev_queue.proofs.EnterLemmas.{has_generation-before, waiting_of-place, AllBefore-place}
use Rattle.dev_queue.proofs.enter.enter_one.Goals as goal

pub insert_reserved-requires-clause-new_generation : goal.insert_reserved-requires-clause-new_generation
insert_reserved-requires-clause-new_generation c = has_generation-before _ _ c.requires.before

pub returns-clause-entries : goal.returns-clause-entries
returns-clause-entries c =
    ap (λ q. waiting_of q.entries) c.insert_reserved.ensures.placed ∙ waiting_of-place _ c.args.queue.now.entries (omega arith) c.requires.before

pub returns-clause-before : goal.returns-clause-before
returns-clause-before c =
    subst (λ q. AllBefore (c.args.generation + 1) q.entries) (sym c.insert_reserved.ensures.placed) (AllBefore-place _ c.args.queue.now.entries c.requires.before)

pub returns-clause-len : goal.returns-clause-len
returns-clause-len c = ap (λ q. length q.entries) c.insert_reserved.ensures.placed ∙ length-place key _ c.args.queue.now.entries
