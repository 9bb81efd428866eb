use Rattle.std.proofs.Common.{◌≡◌, ℕ, ◌<◌, get_or}
use Rattle.cost_plan.proofs.turns.windows.all_reach.Given as goal

abbrev pub invariant-loop-last : goal.invariant-loop-last
invariant-loop-last l = (i : ℕ) → i < l.last-index → get_or l.lasts i 0 ≡ l.end
