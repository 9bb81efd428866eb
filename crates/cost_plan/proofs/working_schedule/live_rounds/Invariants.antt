use Rattle.std.proofs.Common.{◌≡◌, ℕ, ◌<◌, length, get_or}
use Rattle.round_net.specs.Rows.{live_of_rows}
use Rattle.cost_plan.proofs.working_schedule.live_rounds.Given as goal

abbrev pub invariant-loop-stay : goal.invariant-loop-stay
invariant-loop-stay l = (length l.rounds.items ≡ l.stay) × ((s : ℕ) → s < l.stay → get_or l.rounds.items s 0 ≡ live_of_rows l.net s)
