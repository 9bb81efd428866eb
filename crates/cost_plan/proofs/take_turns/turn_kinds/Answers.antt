use Rattle.cost_plan.proofs.OrderLemmas.{order_within}
use Rattle.cost_plan.proofs.KindsLemmas.{IsKind-part, AreTurned-more, AreTurned-ended}
use Rattle.cost_plan.proofs.take_turns.turn_kinds.Goals as goal

pub kind_end-to-requires-clause-within : goal.kind_end-to-requires-clause-within
kind_end-to-requires-clause-within c = order_within _ _ _ c.requires.order

pub turn_kind-requires-clause-kind : goal.turn_kind-requires-clause-kind
turn_kind-requires-clause-kind c = IsKind-part _ _ _ _ _ c.requires.order c.kind_end-to.ensures.within c.kind_end-to.ensures.alike

pub loop-from-preserved : goal.loop-from-preserved
loop-from-preserved c = (AreTurned-more _ _ _ _ _ _ _ _ c.requires.order c.kind_end-to.ensures.later c.kind_end-to.ensures.within c.kind_end-to.ensures.alike c.kind_end-to.ensures.apart c.loop-from.invariant.0 c.in_ok-turn_kind.ensures, c.kind_end-to.ensures.within)

pub returns : goal.returns
returns c = AreTurned-ended _ _ _ _ _ _ c.requires.order c.loop-from-test.false c.loop-from.invariant.1 c.loop-from.invariant.0
