use Rattle.std.proofs.Common.{rules}
use Rattle.std.proofs.lemmas.List.Sorted.{IsNonDecreasingBy-from_sort_by_key}
use Rattle.cost_plan.proofs.SortLemmas.{IsSorting-made}
use Rattle.cost_plan.specs.declared.turns.slots.Slot.{Slot}
use Rattle.cost_plan.proofs.turns.slots.sorted_slots.Goals as goal

pub returns : goal.returns
returns c = IsSorting-made _ _ _ c.in_ok-slots.ensures c.sort_unstable_by_key.ensures.permutation (IsNonDecreasingBy-from_sort_by_key (λ (slot : Slot). slot.round) _ c.sort_unstable_by_key.ensures.sorted (λ a r q k. search rules))
