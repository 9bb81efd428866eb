use Rattle.std.proofs.Common.{◌-◌}
use Rattle.wait_causes.proofs.PartLemmas.{IsSought}
use Rattle.wait_causes.proofs.ranks.nearest_rank.Given as goal

abbrev pub invariant-loop-low : goal.invariant-loop-low
invariant-loop-low l = IsSought l.most l.thousandths l.numbers l.low l.high

abbrev pub decreases-loop-low : goal.decreases-loop-low
decreases-loop-low l = l.high - l.low
