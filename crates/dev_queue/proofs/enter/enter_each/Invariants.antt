use Rattle.dev_queue.proofs.EnterLemmas.{IsEntering}
use Rattle.dev_queue.proofs.enter.enter_each.Given as goal

abbrev pub invariant-loop-entry : goal.invariant-loop-entry
invariant-loop-entry l = IsEntering l.fn.queue l.queue l.entries l.generation l.next l.entry-index
