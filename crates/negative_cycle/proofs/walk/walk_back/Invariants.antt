use Rattle.std.proofs.Common.{◌-◌, length}
use Rattle.negative_cycle.proofs.WalkLemmas.{IsWalked}
use Rattle.negative_cycle.proofs.walk.walk_back.Given as goal

abbrev pub invariant-loop-places : goal.invariant-loop-places
invariant-loop-places l = IsWalked l.preds l.places l.start l.path.items l.node

abbrev pub decreases-loop-places : goal.decreases-loop-places
decreases-loop-places l = length l.preds - length l.path.items
