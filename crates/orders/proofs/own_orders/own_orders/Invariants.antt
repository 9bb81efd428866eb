use Rattle.round_net.specs.Rows.{instance_of_rows}
use Rattle.orders.proofs.OwnLemmas.{AreOwnSoFar}
use Rattle.orders.proofs.own_orders.own_orders.Given as goal

-- the lists of the stays so far
abbrev pub invariant-loop-stay : goal.invariant-loop-stay
invariant-loop-stay l = AreOwnSoFar (instance_of_rows l.net) l.order l.stay-index l.lists.items
