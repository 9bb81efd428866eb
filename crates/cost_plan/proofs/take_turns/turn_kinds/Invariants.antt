use Rattle.std.proofs.Common.{◌-◌, ◌≤◌, length}
use Rattle.cost_plan.specs.Words.{instance_of_rows}
use Rattle.cost_plan.specs.TurnOrder.{AreTurned}
use Rattle.cost_plan.proofs.take_turns.turn_kinds.Given as goal

abbrev pub invariant-loop-from : goal.invariant-loop-from
invariant-loop-from l = AreTurned (instance_of_rows l.net) l.order l.initial.rounds.items l.rounds.items l.from × (l.from ≤ length l.order)

abbrev pub decreases-loop-from : goal.decreases-loop-from
decreases-loop-from l = length l.order - l.from
