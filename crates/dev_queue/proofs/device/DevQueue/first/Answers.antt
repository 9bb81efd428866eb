use Rattle.std.proofs.Common.{option_map, subst, ap, ◌∙◌, arith, slice_get}
use Rattle.std.specs.List.Sorted.{IsNonDecreasingBy}
use Rattle.dev_queue.proofs.EnterLemmas.{waiting_from, slice_get-waiting_of, waiting_of-sorted}
use Rattle.dev_queue.proofs.device.DevQueue.first.Goals as goal

pub returns-in-None-clause-value : goal.returns-in-None-clause-value
returns-in-None-clause-value c =
    ap (option_map waiting_from) c.in-None.ensures.value ∙ slice_get-waiting_of c.self.inside.waiting.entries ∙ ap (λ d. slice_get d.waiting 0) c.self.view_is

pub returns-in-None-clause-sorted : goal.returns-in-None-clause-sorted
returns-in-None-clause-sorted c =
    subst (λ d. IsNonDecreasingBy (λ w. w.priority) d.waiting) c.self.view_is (waiting_of-sorted c.self.inside.waiting.entries _ (omega arith) c.self.invariant.before c.first.ensures.rising)

pub returns-in-Some-clause-sorted : goal.returns-in-Some-clause-sorted
returns-in-Some-clause-sorted c =
    subst (λ d. IsNonDecreasingBy (λ w. w.priority) d.waiting) c.self.view_is (waiting_of-sorted c.self.inside.waiting.entries _ (omega arith) c.self.invariant.before c.first.ensures.rising)
