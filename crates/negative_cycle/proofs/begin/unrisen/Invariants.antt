use Rattle.std.proofs.Common.{◌≡◌, replicate, None}
use Rattle.negative_cycle.proofs.begin.unrisen.Given as goal

abbrev pub invariant-loop-node : goal.invariant-loop-node
invariant-loop-node l = l.preds.items ≡ replicate l._node None
