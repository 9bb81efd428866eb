use Rattle.std.proofs.Common.{ℕ, ◌<◌, ◌≤◌, slice_index}
use Rattle.cost_plan.proofs.turns.windows.are_rising.Given as goal

abbrev pub invariant-loop-place : goal.invariant-loop-place
invariant-loop-place l = (i j : ℕ) → i < j → j < l.place → slice_index l.rounds i ≤ slice_index l.rounds j
