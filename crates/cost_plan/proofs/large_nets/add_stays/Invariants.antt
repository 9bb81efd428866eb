use Rattle.std.proofs.Common.{◌≡◌, length}
use Rattle.cost_plan.proofs.large_nets.add_stays.Given as goal

abbrev pub invariant-loop-stay : goal.invariant-loop-stay
invariant-loop-stay l = length l.network.stays.items ≡ l.stay
