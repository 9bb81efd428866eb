use Rattle.cost_plan.proofs.TurnLemmas.{IsGiving}
use Rattle.cost_plan.proofs.turns.giving.in_turn.Given as goal

abbrev pub invariant-loop-turn : goal.invariant-loop-turn
invariant-loop-turn l = IsGiving l.arrivals l.rounds l.answer.items l.slots.rounds.items l.slots.holders.items l.slots.places.items l.next.items l.turn
