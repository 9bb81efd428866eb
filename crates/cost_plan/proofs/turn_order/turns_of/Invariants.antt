use Rattle.std.proofs.Common.{◌≡◌, map}
use Rattle.std.specs.List.{range_with_len}
use Rattle.cost_plan.specs.Words.{instance_of_rows, live_of_rows}
use Rattle.cost_plan.specs.TurnOrder.{turn_of}
use Rattle.cost_plan.proofs.turn_order.turns_of.Given as goal

abbrev pub invariant-loop-stay : goal.invariant-loop-stay
invariant-loop-stay l = l.turns.items ≡ map (turn_of (instance_of_rows l.net) (live_of_rows l.net)) (range_with_len 0 l.stay)
