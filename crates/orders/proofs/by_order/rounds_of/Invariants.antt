use Rattle.round_net.specs.Rows.{instance_of_rows}
use Rattle.orders.proofs.PlacingLemmas.{IsPlacing}
use Rattle.orders.proofs.by_order.rounds_of.Given as goal

abbrev pub invariant-loop-stay : goal.invariant-loop-stay
invariant-loop-stay l = IsPlacing l.fn.order (instance_of_rows l.net) l.stay-items l.rounds.items l.loads.items l.skips.items l.stay-index
