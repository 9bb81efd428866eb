use Rattle.std.proofs.Common.{◌∙◌, ap, map}
use Rattle.cost_plan.specs.declared.turn_order.Turn.{Turn}
use Rattle.cost_plan.proofs.OrderLemmas.{IsTurnOrder-made}
use Rattle.cost_plan.proofs.turn_order.turn_order.Goals as goal

pub returns : goal.returns
returns c = IsTurnOrder-made _ _ _ _ _ c.in_ok-turns.ensures c.sort_unstable.ensures.permutation c.sort_unstable.ensures.sorted (c.in_ok-order.ensures ∙ ap (map (λ (turn : Turn). turn.stay)) c.deref.ensures.value)
