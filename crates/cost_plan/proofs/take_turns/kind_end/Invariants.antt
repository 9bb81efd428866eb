use Rattle.std.proofs.Common.{ℕ, ◌<◌, ◌≤◌, get_or}
use Rattle.cost_plan.specs.Words.{instance_of_rows}
use Rattle.cost_plan.specs.InTurn.{AreAlike}
use Rattle.cost_plan.proofs.take_turns.kind_end.Given as goal

abbrev pub invariant-loop-to : goal.invariant-loop-to
invariant-loop-to l = (k : ℕ) → l.from ≤ k → k < l.to → AreAlike (instance_of_rows l.net) (get_or l.order l.from 0) (get_or l.order k 0)
