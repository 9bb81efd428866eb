use Rattle.std.proofs.Common.{◌≡◌, replicate, take}
use Rattle.negative_cycle.proofs.begin.lower.Given as goal

abbrev pub invariant-loop-potential : goal.invariant-loop-potential
invariant-loop-potential l = take l.potential-index l.potential-items ≡ replicate l.potential-index 0
