use Rattle.std.proofs.Common.{◌-◌}
use Rattle.orders.proofs.TakeLemmas.{IsTaking}
use Rattle.orders.proofs.first_waiting.take.Given as goal

abbrev pub invariant-loop-round : goal.invariant-loop-round
invariant-loop-round l = IsTaking l.fn.firsts.items l.firsts.items l.next.items l.from l.round l.to l.stay

abbrev pub decreases-loop-round : goal.decreases-loop-round
decreases-loop-round l = l.to - l.round
