use Rattle.std.proofs.Common.{take}
use Rattle.cost_plan.specs.Slots.{AreSlotsOf}
use Rattle.cost_plan.proofs.turns.slots.slots_of.Given as goal

abbrev pub invariant-loop-holder : goal.invariant-loop-holder
invariant-loop-holder l = AreSlotsOf (take l.holder l.rounds) l.slots.items
