use Rattle.std.proofs.Common.{ap, ◌∙◌, subst, List, ℕ, get_or}
use Rattle.cost_plan.specs.Words.{instance_of_rows, live_of_rows}
use Rattle.cost_plan.specs.TurnOrder.{AreTurned}
use Rattle.cost_plan.proofs.KindsLemmas.{TakesTurns-made}
use Rattle.cost_plan.proofs.take_turns.take_turns.Goals as goal

pub returns-clause-turns : goal.returns-clause-turns
returns-clause-turns c =
    let net = instance_of_rows c.args.net.now in
    let new = c.turn_kinds.new.rounds.items in
    let Turned : List ℕ → Type 0 = λ order. AreTurned net order c.in_ok-rounds.rounds.items new net.stays in
    let is = c.in_ok-new.ensures ∙ c.deref-2.ensures.value in
    TakesTurns-made net (live_of_rows c.args.net.now) _ _ _ new c.in_ok-order.ensures (subst Turned c.deref.ensures.value c.in_ok-turn_kinds.ensures) (λ s. ap (λ (xs : List ℕ). get_or xs s 0) is)
