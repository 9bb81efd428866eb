use Rattle.std.proofs.Common.{◌≡◌, ◌+◌, ◌*◌, ◌∙◌, ap}
use Rattle.wait_causes.specs.BlameAmounts.{waited_for, avoidable_for, cost_for, rounds_for}
use Rattle.wait_causes.proofs.BlameAmountLemmas.{same_amounts}
use Rattle.wait_causes.proofs.blame.amounts.Amounts.with.Goals as goal

pub returns-clause-found : goal.returns-clause-found
returns-clause-found c = λ who m are.
    let s = c.args.stay.now in
    let waited : c.rounds_between-waited.result ≡ waited_for who m s = c.rounds_between-waited.ensures.found who m s.device are in
    let avoidable : c.rounds_between-avoidable.result ≡ avoidable_for who m s = c.rounds_between-avoidable.ensures.found who m s.device are ∙ ap (λ from. rounds_for who m s.device from s.live) c.due.ensures in
    let cost : c.from.result * c.rounds_between-waited.result ≡ cost_for who m s = ap (λ w. w * c.rounds_between-waited.result) c.from.ensures ∙ ap (λ n. s.weight * n) waited in
    same_amounts _ _ _ _ _ _ (ap (λ n. c.args.self.waited + n) waited) (ap (λ n. c.args.self.avoidable + n) avoidable) (ap (λ n. c.args.self.cost + n) cost)
