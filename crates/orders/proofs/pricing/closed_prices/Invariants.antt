use Rattle.std.proofs.Common.{slice_index}
use Rattle.round_net.specs.Rows.{instance_of_rows}
use Rattle.orders.proofs.WorthLemmas.{AreWorths}
use Rattle.orders.proofs.pricing.closed_prices.Given as goal

abbrev pub invariant-loop-device : goal.invariant-loop-device
invariant-loop-device l = AreWorths (instance_of_rows l.net) (slice_index l.schedule) l.device l.worth.items
