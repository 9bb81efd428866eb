use Rattle.std.proofs.Common.{◌≡◌, length}
use Rattle.round_net.specs.Rows.{instance_of_rows}
use Rattle.cost_plan.specs.Parts.{before}
use Rattle.cost_plan.proofs.problem.problem_of_part.Given as goal

abbrev pub invariant-loop-stay : goal.invariant-loop-stay
invariant-loop-stay l = length l.stays.items ≡ before (instance_of_rows l.net) l.part l.stay
