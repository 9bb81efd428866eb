use Rattle.dev_queue.proofs.EnterLemmas.{has_generation-before, AllBefore-place}
use Rattle.benches.proofs.queues.load.insert_behind.Goals as goal

pub insert_reserved-requires-clause-new_generation : goal.insert_reserved-requires-clause-new_generation
insert_reserved-requires-clause-new_generation c = has_generation-before _ _ c.requires.before

pub returns : goal.returns
returns c = rw c.insert_reserved.ensures.placed (AllBefore-place _ _ c.requires.before)
