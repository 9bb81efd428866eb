use Rattle.std.proofs.Common.{refl, arith}
use Rattle.cost_plan.proofs.ExchangeLemmas.{Exchanges-through, Exchanges-past, Exchanges-named, length_exchanged}
use Rattle.cost_plan.proofs.turns.exchange.exchange_all.Goals as goal
use Rattle.cost_plan.proofs.turns.exchange.exchange_all.Goals.{then-exchange_with, else-exchange_with}

pub exchange_with-requires-clause-long : goal.exchange_with-requires-clause-long
exchange_with-requires-clause-long c = length_exchanged _ _ _ _ _ _ _ _ c.loop-first.invariant

pub loop-first-preserved : goal.loop-first-preserved
loop-first-preserved c =
    let before = c.loop-first.invariant in
    elim c.if-exchange_with.branch [
      | then-exchange_with w ↦ Exchanges-named _ _ _ _ _ _ _ _ _ _ refl w.changed-is (Exchanges-through _ _ _ _ _ _ _ (omega arith) before w.if-exchange_with.ensures)
      | else-exchange_with w ↦ Exchanges-named _ _ _ _ _ _ _ _ _ _ refl w.changed-is (Exchanges-past _ _ _ _ _ _ _ before w.if-exchange_with.ensures)
    ]
