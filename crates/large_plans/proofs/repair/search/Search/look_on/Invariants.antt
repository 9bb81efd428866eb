use Rattle.large_plans.proofs.repair.search.Search.look_on.Given as goal

abbrev pub decreases-loop-left : goal.decreases-loop-left
decreases-loop-left l = l.left
