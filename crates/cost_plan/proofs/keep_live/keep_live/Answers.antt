use Rattle.std.proofs.Common.{◌∙◌, ap, arith, get_or, List, ℕ}
use Rattle.cost_plan.proofs.TieLemmas.{proved-live, TakesTurns-live}
use Rattle.cost_plan.proofs.keep_live.keep_live.Goals as goal

pub returns-clause-proved : goal.returns-clause-proved
returns-clause-proved c =
    proved-live _ _ _ _ _ c.cost.ensures.sound c.requires.proved
    (omega (arith, c.if-least-live_cost.false, c.live_cost.ensures.same, c.in-Some.ensures.waits.1))
    (λ s less. ap (λ (rounds : List ℕ). get_or rounds s 0) (c.in_ok-new.ensures ∙ c.deref.ensures.value) ∙ c.in_ok-live_rounds.ensures.live s less)

pub returns-clause-turns : goal.returns-clause-turns
returns-clause-turns c =
    TakesTurns-live _ _ _ (λ s less. ap (λ (rounds : List ℕ). get_or rounds s 0) (c.in_ok-new.ensures ∙ c.deref.ensures.value) ∙ c.in_ok-live_rounds.ensures.live s less)
