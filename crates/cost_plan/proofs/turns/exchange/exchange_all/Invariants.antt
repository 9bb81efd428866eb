use Rattle.cost_plan.specs.Exchanges.{IsInTurn, Exchanges}
use Rattle.cost_plan.proofs.turns.exchange.exchange_all.Given as goal

abbrev pub invariant-loop-first : goal.invariant-loop-first
invariant-loop-first l = Exchanges l.arrivals l.lasts (IsInTurn l.arrivals l.lasts) 0 l.initial.rounds.items l.rounds.items l.changed l.first
