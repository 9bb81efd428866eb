use Rattle.orders.specs.OwnOrders.{AreNone}
use Rattle.orders.proofs.own_orders.no_stays.Given as goal

abbrev pub invariant-loop-device : goal.invariant-loop-device
invariant-loop-device l = AreNone l._device l.lists.items
