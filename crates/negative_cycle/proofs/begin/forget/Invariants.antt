use Rattle.std.proofs.Common.{◌≡◌, replicate, take, None}
use Rattle.negative_cycle.proofs.begin.forget.Given as goal

abbrev pub invariant-loop-pred : goal.invariant-loop-pred
invariant-loop-pred l = take l.pred-index l.pred-items ≡ replicate l.pred-index None
