use Rattle.std.proofs.Common.{◌≡◌, ℕ, ◌+◌, ◌<◌, length, get_or}
use Rattle.cost_plan.proofs.turns.giving.following.Given as goal

abbrev pub invariant-loop-slot : goal.invariant-loop-slot
invariant-loop-slot l = (length l.next.items ≡ l.slot) × ((k : ℕ) → k < l.slot → get_or l.next.items k 0 ≡ k + 1)
