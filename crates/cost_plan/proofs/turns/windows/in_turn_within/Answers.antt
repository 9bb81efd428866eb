use Rattle.std.proofs.Common.{ℕ, List, Vec, Global, ap, sym, subst, arith}
use Rattle.cost_plan.specs.Turns.{AreInTurnWithin}
use Rattle.cost_plan.proofs.ExchangeLemmas.{HaveWindows-open}
use Rattle.cost_plan.proofs.turns.windows.in_turn_within.Goals as goal
use Rattle.cost_plan.proofs.turns.windows.in_turn_within.Goals.{then-rounds-le-FEW_STAYS, else-rounds-le-FEW_STAYS}

pub returns-then-all_reach-clause-windows : goal.returns-then-all_reach-clause-windows
returns-then-all_reach-clause-windows c = HaveWindows-open _ _ _ _ c.args.end c.requires.long c.requires.lasts (c.all_reach.ensures.yes c.if-all_reach.true) c.requires.windows c.in_ok-answer-2.ensures.permutation c.in_ok-answer-2.ensures.arrived

pub returns-clause-in_turn : goal.returns-clause-in_turn
returns-clause-in_turn c =
    elim c.if-rounds-le-FEW_STAYS.branch [
      | then-rounds-le-FEW_STAYS w ↦
          let P : List ℕ → Type 0 = AreInTurnWithin c.args.arrivals.now c.args.lasts.now in
          λ _. subst P (ap (λ (v : Vec ℕ Global). v.items) (sym w.answer-is)) w.exchange.ensures.in_turn
      | else-rounds-le-FEW_STAYS w ↦ λ allowed. absurd (allowed (omega arith, c.all_reach.ensures.no c.if-all_reach.false))
    ]
