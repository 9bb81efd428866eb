use Rattle.std.proofs.Common.{◌≡◌, ℕ, ◌<◌, length, get_or}
use Rattle.cost_plan.proofs.turns.slots.places_of.Given as goal

abbrev pub invariant-loop-slot : goal.invariant-loop-slot
invariant-loop-slot l = (length l.places.items ≡ length l.holders) × ((k : ℕ) → k < length l.holders → get_or l.places.items k 0 < length l.holders) × ((k : ℕ) → k < l.slot → get_or l.holders (get_or l.places.items (get_or l.holders k 0) 0) 0 ≡ get_or l.holders k 0)
