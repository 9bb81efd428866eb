use Rattle.std.proofs.Common.{◌≡◌, length}
use Rattle.cost_plan.proofs.problem.all_stays.Given as goal

abbrev pub invariant-loop-stay : goal.invariant-loop-stay
invariant-loop-stay l = length l.stays.items ≡ l.stay
