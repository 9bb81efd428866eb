use Rattle.std.proofs.Common.{◌≡◌, take}
use Rattle.cost_plan.proofs.take_turns.rounds_in.Given as goal

abbrev pub invariant-loop-stay : goal.invariant-loop-stay
invariant-loop-stay l = l.rounds.items ≡ take l.stay l.schedule
