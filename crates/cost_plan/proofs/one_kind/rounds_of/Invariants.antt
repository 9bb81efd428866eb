use Rattle.std.proofs.Common.{◌≡◌, map, take, get_or}
use Rattle.cost_plan.proofs.one_kind.rounds_of.Given as goal

abbrev pub invariant-loop-stay : goal.invariant-loop-stay
invariant-loop-stay l = l.own.items ≡ map (λ s. get_or l.rounds s 0) (take l.stay-index l.members)
