use Rattle.std.proofs.Common.{ℕ, ◌<◌, ◌≤◌, List, Vec, Global, get_or, ap, ◌∙◌, subst, arith}
use Rattle.cost_plan.specs.Exchanges.{ArePairInTurn}
use Rattle.cost_plan.proofs.ExchangeLemmas.{Exchanges-swap, Exchanges-quiet, Exchanges-named}
use Rattle.cost_plan.proofs.turns.exchange.exchange_with.Goals as goal
use Rattle.cost_plan.proofs.turns.exchange.exchange_with.Goals.{then-should_change, else-should_change}

pub loop-later-preserved : goal.loop-later-preserved
loop-later-preserved c =
    let before = c.loop-later.invariant in
    let first = c.args.first in
    let later = c.loop-later.later in
    let Yes : List ℕ → Type 0 = λ xs. (get_or xs later 0 < get_or xs first 0) × (get_or c.args.arrivals.now first 0 ≤ get_or xs later 0) × (get_or xs first 0 ≤ get_or c.args.lasts.now later 0) in
    let No : List ℕ → Type 0 = λ xs. ArePairInTurn c.args.arrivals.now c.args.lasts.now first xs later in
    elim c.if-should_change.branch [
      | then-should_change w ↦
          let yes = subst Yes c.deref.ensures.value (c.should_change.ensures.yes w.if-should_change.true) in
          Exchanges-swap _ _ _ c.loop-later.rounds.items _ _ _ c.loop-later.changed _ _ first later (omega arith) (omega arith) yes.0 yes.1 yes.2 (ap (λ (v : Vec ℕ Global). v.items) w.rounds-is ∙ w.swap.ensures.items) w.changed-is before
      | else-should_change w ↦
          let no = subst No c.deref.ensures.value (c.should_change.ensures.no w.if-should_change.false) in
          Exchanges-named _ _ _ _ _ _ _ _ _ _ (ap (λ (v : Vec ℕ Global). v.items) w.rounds-is) w.changed-is (Exchanges-quiet _ _ _ _ _ _ _ _ no before)
    ]
