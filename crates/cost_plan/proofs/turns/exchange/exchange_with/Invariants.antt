use Rattle.cost_plan.specs.Exchanges.{ArePairInTurn, Exchanges}
use Rattle.std.proofs.Common.{◌+◌}
use Rattle.cost_plan.proofs.turns.exchange.exchange_with.Given as goal

abbrev pub invariant-loop-later : goal.invariant-loop-later
invariant-loop-later l = Exchanges l.arrivals l.lasts (ArePairInTurn l.arrivals l.lasts l.first) (l.first + 1) l.initial.rounds.items l.rounds.items l.changed l.later
