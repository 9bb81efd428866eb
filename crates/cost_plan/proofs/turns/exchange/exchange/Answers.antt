use Rattle.std.proofs.lemmas.List.Sorted.{IsPermutation-trans}
use Rattle.cost_plan.proofs.ExchangeLemmas.{length_exchanged}
use Rattle.cost_plan.proofs.turns.exchange.exchange.Goals as goal

pub passes-preserved : goal.passes-preserved
passes-preserved c =
    let one = c.exchange_all.ensures in
    (IsPermutation-trans _ _ _ c.passes.invariant.0 one.permutation, one.windows, length_exchanged _ _ _ _ _ _ _ _ one)
