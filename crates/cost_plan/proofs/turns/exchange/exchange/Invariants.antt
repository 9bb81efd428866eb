use Rattle.std.proofs.Common.{◌≡◌, length}
use Rattle.std.specs.List.Sorted.{IsPermutation}
use Rattle.cost_plan.specs.Turns.{HaveWindows}
use Rattle.cost_plan.specs.Exchanges.{lateness}
use Rattle.cost_plan.proofs.turns.exchange.exchange.Given as goal

abbrev pub invariant-passes : goal.invariant-passes
invariant-passes l = IsPermutation l.initial.rounds.items l.rounds.items × HaveWindows l.arrivals l.lasts l.rounds.items × (length l.arrivals ≡ length l.rounds.items)

abbrev pub decreases-passes : goal.decreases-passes
decreases-passes l = lateness l.rounds.items
