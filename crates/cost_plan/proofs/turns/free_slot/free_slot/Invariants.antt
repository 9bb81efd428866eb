use Rattle.std.proofs.Common.{◌-◌, length}
use Rattle.cost_plan.proofs.SlotLemmas.{IsSeeking}
use Rattle.cost_plan.proofs.turns.free_slot.free_slot.Given as goal

abbrev pub invariant-loop-slot : goal.invariant-loop-slot
invariant-loop-slot l = IsSeeking l.holders l.turn l.next.items l.from l.slot

abbrev pub decreases-loop-slot : goal.decreases-loop-slot
decreases-loop-slot l = length l.holders - l.slot
