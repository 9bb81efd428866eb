use Rattle.slots.proofs.TallyLemmas.{IsSpreading}
use Rattle.slots.proofs.tally.spread.Given as goal

-- the times so far are added
abbrev pub invariant-loop-left : goal.invariant-loop-left
invariant-loop-left l = IsSpreading l.clock l.from l.count l.initial.row l.row l.first l.left

abbrev pub decreases-loop-left : goal.decreases-loop-left
decreases-loop-left l = l.left
