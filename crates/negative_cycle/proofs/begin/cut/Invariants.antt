use Rattle.std.proofs.Common.{◌≡◌, map, take}
use Rattle.negative_cycle.specs.PotentialTable.{begun}
use Rattle.negative_cycle.proofs.begin.cut.Given as goal

abbrev pub invariant-loop-potential : goal.invariant-loop-potential
invariant-loop-potential l = l.cut.items ≡ map (begun l.most) (take l.potential-index l.potentials)
